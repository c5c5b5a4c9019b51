use Rattle.std.proofs.Common.{None}
use Rattle.ygg_sym_runs.specs.SpecCuts.{fall_made}
use Rattle.ygg_sym_spec.proofs.Falling.{own_can}
use Rattle.ygg_sym_spec.proofs.Going.{cut_goes, form_along, nodes_along, whole_cut}
use Rattle.ygg_sym_spec.specs.Layers.{closed, cut_of, terms_in, then_crash_of}
use Rattle.ygg_sym_spec.specs.Picking.{picking}
use Rattle.ygg_sym_spec.proofs.falls.cut.Goals as goal

pub returns-in-Some-clause-nodes : goal.returns-in-Some-clause-nodes
returns-in-Some-clause-nodes g c =
    let kinds = g.B.Book.kinds c.args.book.now in
    nodes_along (then_crash_of kinds c.args.layer c.args.picks c.in-Some.b c.args.vars.now c.as_slice.result.now c.args.args.now c.args.bank.now)
    (cut_of kinds c.args.layer c.args.picks c.args.operation.now c.args.args.now c.args.vars.now c.args.bank.now) c.then_crash.new.bank c.then_crash.result
    (cut_goes kinds c.args.layer c.args.picks c.args.operation.now c.in-Some.b c.args.vars.now c.as_slice.result.now c.args.args.now c.args.bank.now
    c.in-Some.is c.as_slice.ensures) c.then_crash.ensures.nodes

pub returns-in-Some-clause-form : goal.returns-in-Some-clause-form
returns-in-Some-clause-form g c =
    let kinds = g.B.Book.kinds c.args.book.now in
    form_along (then_crash_of kinds c.args.layer c.args.picks c.in-Some.b c.args.vars.now c.as_slice.result.now c.args.args.now c.args.bank.now)
    (cut_of kinds c.args.layer c.args.picks c.args.operation.now c.args.args.now c.args.vars.now c.args.bank.now) c.then_crash.result
    (cut_goes kinds c.args.layer c.args.picks c.args.operation.now c.in-Some.b c.args.vars.now c.as_slice.result.now c.args.args.now c.args.bank.now
    c.in-Some.is c.as_slice.ensures) c.then_crash.ensures.form

pub then_crash-requires-clause-can : goal.then_crash-requires-clause-can
then_crash-requires-clause-can g c =
    own_can c.args.layer c.args.picks c.args.bank.now c.args.operation.now c.in-Some.b c.args.vars.now c.as_slice.result.now c.args.args.now c.in-Some.is
    c.as_slice.ensures c.requires.can

pub returns-in-None-clause-nodes : goal.returns-in-None-clause-nodes
returns-in-None-clause-nodes g c =
    let kinds = g.B.Book.kinds c.args.book.now in
    nodes_along (fall_made kinds (terms_in kinds c.args.layer) (closed c.args.layer) (picking kinds c.args.picks) c.args.operation.now None c.args.vars.now
    c.args.args.now c.args.bank.now) (cut_of kinds c.args.layer c.args.picks c.args.operation.now c.args.args.now c.args.vars.now c.args.bank.now)
    c.wholly_or_not.new.bank c.wholly_or_not.result
    (whole_cut kinds c.args.layer c.args.picks c.args.operation.now c.args.vars.now c.args.args.now c.args.bank.now c.in-None.is)
    c.wholly_or_not.ensures.nodes

pub returns-in-None-clause-form : goal.returns-in-None-clause-form
returns-in-None-clause-form g c =
    let kinds = g.B.Book.kinds c.args.book.now in
    form_along (fall_made kinds (terms_in kinds c.args.layer) (closed c.args.layer) (picking kinds c.args.picks) c.args.operation.now None c.args.vars.now
    c.args.args.now c.args.bank.now) (cut_of kinds c.args.layer c.args.picks c.args.operation.now c.args.args.now c.args.vars.now c.args.bank.now)
    c.wholly_or_not.result
    (whole_cut kinds c.args.layer c.args.picks c.args.operation.now c.args.vars.now c.args.args.now c.args.bank.now c.in-None.is)
    c.wholly_or_not.ensures.form

pub returns-in-Some-clause-shape : goal.returns-in-Some-clause-shape
returns-in-Some-clause-shape g c = c.then_crash.ensures.shape

pub returns-in-None-clause-shape : goal.returns-in-None-clause-shape
returns-in-None-clause-shape g c = c.wholly_or_not.ensures.shape

pub returns-in-Some-clause-grows : goal.returns-in-Some-clause-grows
returns-in-Some-clause-grows g c = c.then_crash.ensures.grows

pub returns-in-None-clause-grows : goal.returns-in-None-clause-grows
returns-in-None-clause-grows g c = c.wholly_or_not.ensures.grows

pub returns-in-Some-clause-single : goal.returns-in-Some-clause-single
returns-in-Some-clause-single g c = c.then_crash.ensures.single

pub returns-in-None-clause-single : goal.returns-in-None-clause-single
returns-in-None-clause-single g c = c.wholly_or_not.ensures.single

pub returns-in-Some-clause-bank : goal.returns-in-Some-clause-bank
returns-in-Some-clause-bank g c = c.then_crash.ensures.bank

pub returns-in-None-clause-bank : goal.returns-in-None-clause-bank
returns-in-None-clause-bank g c = c.wholly_or_not.ensures.bank
