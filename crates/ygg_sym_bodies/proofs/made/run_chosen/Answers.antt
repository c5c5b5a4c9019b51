use Rattle.std.proofs.Common.{refl}
use Rattle.std.specs.Option.{option_copied}
use Rattle.ygg_sym_bodies.proofs.Standing.{chosen_made, chosen_stands}
use Rattle.ygg_sym_bodies.proofs.made.run_chosen.Goals as goal

pub returns-clause-made : goal.returns-clause-made
returns-clause-made g c =
    let kinds = g.B.Book.kinds c.args.book.now in
    let left = c.in_ok-done.ensures in
    chosen_made kinds c.args.at c.args.from.now (option_copied c.args.given) c.args.first c.args.one c.args.bank.now c.block.new.bank _ c.picks_of.result
    c.as_slice.result.now (c.picks_of.ensures.picks kinds) c.as_slice.ensures left.nodes left.form c.in_ok-args.ensures c.in_ok-low.ensures refl

pub returns-clause-stands : goal.returns-clause-stands
returns-clause-stands g c =
    let kinds = g.B.Book.kinds c.args.book.now in
    let left = c.in_ok-done.ensures in
    chosen_stands kinds c.args.at c.args.from.now (option_copied c.args.given) c.args.first c.args.one c.args.bank.now c.block.new.bank _ c.requires.can
    (returns-clause-made g c) left.bank c.requires.one left.grows left.shape
