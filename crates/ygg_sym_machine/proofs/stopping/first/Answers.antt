use Rattle.ygg_sym_runs.specs.ygg_bank_proofs_Widths.{extends_both, wider}
use Rattle.ygg_sym_runs.specs.ygg_shape_words.Picking.{picked}
use Rattle.ygg_sym_machine.specs.Halting.{first_made}
use Rattle.ygg_sym_machine.proofs.Chains.{form_as, nodes_as}
use Rattle.ygg_sym_machine.proofs.Standing.{can_pick, first_from, first_single, first_wide}
use Rattle.ygg_sym_machine.proofs.stopping.first.Goals as goal

pub pick-requires-clause-pick : goal.pick-requires-clause-pick
pick-requires-clause-pick g c =
    let old = c.args.bank.now in
    let new = c.make.new.self in
    can_pick new c.args.other c.in_ok-never.never c.args.one (wider old new c.args.other 1 c.make.ensures.grows c.requires.other)
    c.in_ok-never.ensures.width (wider old new c.args.one 1 c.make.ensures.grows c.requires.one)

pub returns-clause-nodes : goal.returns-clause-nodes
returns-clause-nodes g c =
    let kinds = g.B.Book.kinds c.args.book.now in
    nodes_as (picked kinds c.args.other c.in_ok-never.never c.args.one c.make.new.self) (first_made kinds c.args.other c.args.one c.args.bank.now)
    c.pick.new.bank c.pick.result
    (first_from kinds c.args.other c.args.one c.in_ok-never.never c.args.bank.now c.make.new.self c.in_ok-never.ensures.id c.in_ok-never.ensures.nodes)
    c.pick.ensures.nodes

pub returns-clause-form : goal.returns-clause-form
returns-clause-form g c =
    let kinds = g.B.Book.kinds c.args.book.now in
    form_as (picked kinds c.args.other c.in_ok-never.never c.args.one c.make.new.self) (first_made kinds c.args.other c.args.one c.args.bank.now)
    c.pick.result
    (first_from kinds c.args.other c.args.one c.in_ok-never.never c.args.bank.now c.make.new.self c.in_ok-never.ensures.id c.in_ok-never.ensures.nodes)
    c.pick.ensures.form

pub returns-clause-width : goal.returns-clause-width
returns-clause-width g c = first_wide c.make.new.self c.pick.new.bank c.in_ok-never.never c.pick.result c.in_ok-never.ensures.width c.pick.ensures.width

pub returns-clause-single : goal.returns-clause-single
returns-clause-single g c =
    first_single (g.B.Book.kinds c.args.book.now) c.args.bank.now c.make.new.self c.pick.new.bank c.args.other c.in_ok-never.never c.args.one
    c.pick.result c.in_ok-never.ensures.nodes c.pick.ensures.nodes

pub returns-clause-grows : goal.returns-clause-grows
returns-clause-grows g c = extends_both c.args.bank.now c.make.new.self c.pick.new.bank c.make.ensures.grows c.pick.ensures.grows
