use Rattle.ygg_sym_runs.specs.ygg_shape_cells.declared.terms.SymValue.{SymValue}
use Rattle.ygg_sym_runs.specs.Lows.{LowShaped}
use Rattle.ygg_sym_runs.specs.ygg_bank_proofs_Widths.{extends_self}
use Rattle.std.proofs.Common.{List, Some, None, ap}
use Rattle.ygg_sym_runs.specs.ygg_bank.Makes.{Out, pure}
use Rattle.ygg_sym_spec.proofs.Falling.{fall_can}
use Rattle.ygg_sym_spec.proofs.Going.{always_ok, fall_goes, form_along, found_so, nodes_along, none_goes, same_as}
use Rattle.ygg_sym_spec.specs.Layers.{cut_of, fall_of}
use Rattle.ygg_sym_spec.proofs.falls.fall.Goals as goal

pub cut-requires : goal.cut-requires
cut-requires g c = record {
  can = fall_can c.args.layer c.args.picks c.args.bank.now c.args.name.now c.args.vars.now c.args.args.now c.requires.can c.in-Some.operation.now
      (found_so (g.B.Book.kinds c.args.book.now) c.args.layer c.args.picks c.args.name.now c.as_slice.result.now (Some c.in-Some.operation.now)
      c.as_slice.ensures c.in-Some.ensures);
}

pub returns-in-Some-clause-nodes : goal.returns-in-Some-clause-nodes
returns-in-Some-clause-nodes g c =
    let kinds = g.B.Book.kinds c.args.book.now in
    let o = c.in-Some.operation.now in
    nodes_along (cut_of kinds c.args.layer c.args.picks o c.args.args.now c.args.vars.now c.args.bank.now)
    (fall_of kinds c.args.layer c.args.picks c.args.name.now c.args.args.now c.args.vars.now c.args.bank.now) c.cut.new.bank c.cut.result
    (fall_goes kinds c.args.layer c.args.picks c.args.name.now o c.args.vars.now c.args.args.now c.args.bank.now
    (found_so kinds c.args.layer c.args.picks c.args.name.now c.as_slice.result.now (Some o) c.as_slice.ensures c.in-Some.ensures)) c.cut.ensures.nodes

pub returns-in-Some-clause-form : goal.returns-in-Some-clause-form
returns-in-Some-clause-form g c =
    let kinds = g.B.Book.kinds c.args.book.now in
    let o = c.in-Some.operation.now in
    form_along (cut_of kinds c.args.layer c.args.picks o c.args.args.now c.args.vars.now c.args.bank.now)
    (fall_of kinds c.args.layer c.args.picks c.args.name.now c.args.args.now c.args.vars.now c.args.bank.now) c.cut.result
    (fall_goes kinds c.args.layer c.args.picks c.args.name.now o c.args.vars.now c.args.args.now c.args.bank.now
    (found_so kinds c.args.layer c.args.picks c.args.name.now c.as_slice.result.now (Some o) c.as_slice.ensures c.in-Some.ensures)) c.cut.ensures.form

pub returns-in-None-clause-form : goal.returns-in-None-clause-form
returns-in-None-clause-form g c =
    let kinds = g.B.Book.kinds c.args.book.now in
    form_along (pure c.args.vars.now c.args.bank.now)
    (fall_of kinds c.args.layer c.args.picks c.args.name.now c.args.args.now c.args.vars.now c.args.bank.now) c.copy.result
    (none_goes kinds c.args.layer c.args.picks c.args.name.now c.args.vars.now c.args.args.now c.args.bank.now
    (found_so kinds c.args.layer c.args.picks c.args.name.now c.as_slice.result.now None c.as_slice.ensures c.in-None.ensures)) c.copy.ensures

pub returns-in-None-clause-nodes : goal.returns-in-None-clause-nodes
returns-in-None-clause-nodes g c =
    let kinds = g.B.Book.kinds c.args.book.now in
    always_ok c.copy.result
    (ap (λ (o : Out (List SymValue)). o.nodes)
    (none_goes kinds c.args.layer c.args.picks c.args.name.now c.args.vars.now c.args.args.now c.args.bank.now
    (found_so kinds c.args.layer c.args.picks c.args.name.now c.as_slice.result.now None c.as_slice.ensures c.in-None.ensures)))

pub returns-in-None-clause-single : goal.returns-in-None-clause-single
returns-in-None-clause-single g c = always_ok c.copy.result (λ first h. h)

pub returns-in-None-clause-shape : goal.returns-in-None-clause-shape
returns-in-None-clause-shape g c =
    same_as (LowShaped c.args.bank.now (c.args.layer.layer.now).state) c.args.vars.now c.copy.result c.copy.ensures (c.requires.can).vars_are

pub returns-in-None-clause-grows : goal.returns-in-None-clause-grows
returns-in-None-clause-grows g c = extends_self c.args.bank.now

pub returns-in-None-clause-bank : goal.returns-in-None-clause-bank
returns-in-None-clause-bank g c = c.len.ensures.bank

pub returns-in-Some-clause-shape : goal.returns-in-Some-clause-shape
returns-in-Some-clause-shape g c = c.cut.ensures.shape

pub returns-in-Some-clause-grows : goal.returns-in-Some-clause-grows
returns-in-Some-clause-grows g c = c.cut.ensures.grows

pub returns-in-Some-clause-single : goal.returns-in-Some-clause-single
returns-in-Some-clause-single g c = c.cut.ensures.single

pub returns-in-Some-clause-bank : goal.returns-in-Some-clause-bank
returns-in-Some-clause-bank g c = c.cut.ensures.bank
