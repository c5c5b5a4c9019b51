use Rattle.ygg_sym_runs.specs.ygg_bank_proofs_Widths.{extends_both}
use Rattle.ygg_sym_spec.proofs.Falling.{crash_can}
use Rattle.ygg_sym_spec.proofs.Going.{both_single, form_along, nodes_along, then_goes}
use Rattle.ygg_sym_spec.specs.Layers.{crash_of, then_crash_of}
use Rattle.ygg_sym_spec.proofs.blocks.then_crash.Goals as goal

pub crash-requires : goal.crash-requires
crash-requires g c = record {
  can = crash_can c.args.layer c.args.picks c.in_ok-later.later c.args.bank.now c.block.new.bank c.in_ok-later.ensures.first c.in_ok-done.ensures.single
      c.args.b.now c.args.vars.now c.args.args.now c.args.values.now (c.in_ok-done.done).vars c.requires.can c.requires.crash c.in_ok-done.ensures.shape;
}

pub returns-clause-nodes : goal.returns-clause-nodes
returns-clause-nodes g c =
    let kinds = g.B.Book.kinds c.args.book.now in
    nodes_along (crash_of kinds c.args.layer c.in_ok-later.later (c.in_ok-done.done).vars c.block.new.bank)
    (then_crash_of kinds c.args.layer c.args.picks c.args.b.now c.args.vars.now c.args.args.now c.args.values.now c.args.bank.now) c.crash.new.bank
    c.crash.result
    (then_goes kinds c.args.layer c.args.picks c.in_ok-later.later c.in-Some.count c.args.b.now c.args.vars.now c.args.args.now c.args.values.now
    c.args.bank.now c.block.new.bank (c.in_ok-done.done).answer (c.in_ok-done.done).vars c.in-Some.ensures c.in_ok-later.ensures.picks
    c.in_ok-done.ensures.nodes c.in_ok-done.ensures.form) c.crash.ensures.nodes

pub returns-clause-form : goal.returns-clause-form
returns-clause-form g c =
    let kinds = g.B.Book.kinds c.args.book.now in
    form_along (crash_of kinds c.args.layer c.in_ok-later.later (c.in_ok-done.done).vars c.block.new.bank)
    (then_crash_of kinds c.args.layer c.args.picks c.args.b.now c.args.vars.now c.args.args.now c.args.values.now c.args.bank.now) c.crash.result
    (then_goes kinds c.args.layer c.args.picks c.in_ok-later.later c.in-Some.count c.args.b.now c.args.vars.now c.args.args.now c.args.values.now
    c.args.bank.now c.block.new.bank (c.in_ok-done.done).answer (c.in_ok-done.done).vars c.in-Some.ensures c.in_ok-later.ensures.picks
    c.in_ok-done.ensures.nodes c.in_ok-done.ensures.form) c.crash.ensures.form

pub returns-clause-single : goal.returns-clause-single
returns-clause-single g c =
    both_single c.args.bank.now c.block.new.bank c.crash.new.bank c.crash.result c.in_ok-done.ensures.single c.crash.ensures.single

pub returns-clause-grows : goal.returns-clause-grows
returns-clause-grows g c = extends_both c.args.bank.now c.block.new.bank c.crash.new.bank c.block.ensures.grows c.crash.ensures.grows

pub returns-clause-shape : goal.returns-clause-shape
returns-clause-shape g c = c.crash.ensures.shape

pub returns-clause-bank : goal.returns-clause-bank
returns-clause-bank g c = c.crash.ensures.bank

pub returns-in_err-later-clause-bank : goal.returns-in_err-later-clause-bank
returns-in_err-later-clause-bank g c = c.block.ensures.bank

pub returns-in_err-later-clause-grows : goal.returns-in_err-later-clause-grows
returns-in_err-later-clause-grows g c = c.block.ensures.grows

pub returns-in_default-clause-bank : goal.returns-in_default-clause-bank
returns-in_default-clause-bank g c = c.block.ensures.bank

pub returns-in_default-clause-grows : goal.returns-in_default-clause-grows
returns-in_default-clause-grows g c = c.block.ensures.grows

pub returns-in_err-done-clause-bank : goal.returns-in_err-done-clause-bank
returns-in_err-done-clause-bank g c = c.block.ensures.bank

pub returns-in_err-done-clause-grows : goal.returns-in_err-done-clause-grows
returns-in_err-done-clause-grows g c = c.block.ensures.grows
