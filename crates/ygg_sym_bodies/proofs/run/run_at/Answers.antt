use Rattle.std.proofs.Common.{sym}
use Rattle.std.specs.Option.{option_copied}
use Rattle.ygg_sym_runs.proofs.Singles.{below_single}
use Rattle.ygg_sym_bodies.proofs.Sited.{both_ok, can_choose, can_run, whole_called, whole_chosen}
use Rattle.ygg_sym_bodies.proofs.run.run_at.Goals as goal

pub run_called-requires-clause-can : goal.run_called-requires-clause-can
run_called-requires-clause-can g c =
    can_run c.args.at c.args.part c.requires.fits c.args.bank.now c.make.new.self c.args.from.now c.in_ok-one.ensures.grows c.requires.shaped
    (sym c.if-calls.ensures)

pub run_called-requires-clause-single : goal.run_called-requires-clause-single
run_called-requires-clause-single g c =
    below_single c.in_ok-first.first c.make.new.self (c.in_ok-one.ensures.inputs c.in_ok-first.first (c.in_ok-first.ensures.next).above)

pub run_chosen-requires-clause-can : goal.run_chosen-requires-clause-can
run_chosen-requires-clause-can g c =
    can_choose c.args.at c.args.part c.requires.fits c.args.bank.now c.make.new.self c.args.from.now c.in_ok-one.ensures.grows c.requires.shaped
    (sym c.if-calls.ensures)

pub run_chosen-requires-clause-single : goal.run_chosen-requires-clause-single
run_chosen-requires-clause-single g c =
    below_single c.in_ok-first.first c.make.new.self (c.in_ok-one.ensures.inputs c.in_ok-first.first (c.in_ok-first.ensures.next).above)

pub returns-then-calls-clause-made : goal.returns-then-calls-clause-made
returns-then-calls-clause-made g c =
    let kinds = g.B.Book.kinds c.args.book.now in
    let given = option_copied c.args.given in
    both_ok c.run_called.result c.run_called.ensures.made c.run_called.ensures.inputs (λ r m i.
    whole_called c.args.at c.args.part c.requires.fits kinds c.args.from.now c.args.bank.now c.run_called.new.bank r given c.in_ok-first.first c.make.new.self
    c.in_ok-one.one c.in_ok-one.ensures.nodes c.in_ok-one.ensures.id (sym c.if-calls.ensures) i m)

pub returns-else-calls-clause-made : goal.returns-else-calls-clause-made
returns-else-calls-clause-made g c =
    let kinds = g.B.Book.kinds c.args.book.now in
    let given = option_copied c.args.given in
    both_ok c.run_chosen.result c.run_chosen.ensures.made c.run_chosen.ensures.inputs (λ r m i.
    whole_chosen c.args.at c.args.part c.requires.fits kinds c.args.from.now c.args.bank.now c.run_chosen.new.bank r given c.in_ok-first.first c.make.new.self
    c.in_ok-one.one c.in_ok-one.ensures.nodes c.in_ok-one.ensures.id (sym c.if-calls.ensures) i m)
