use Rattle.ygg_sym_runs.specs.ygg_bank_proofs_Widths.{extends_self}
use Rattle.std.proofs.Common.{Some, subst, sym}
use Rattle.ygg_sym_spec.proofs.Falling.{call_can}
use Rattle.ygg_sym_spec.proofs.Going.{call_nodes, found_so}
use Rattle.ygg_sym_spec.specs.Layers.{CanCut}
use Rattle.ygg_sym_spec.specs.declared.picks.SymPicks.TheVariants as picks
use Rattle.ygg_sym_spec.proofs.machine.call.Goals as goal

pub block-requires : goal.block-requires
block-requires g c = record {
  can = call_can c.args.layer (picks.Inputs c.args.first) c.args.bank.now c.args.name.now c.state.inside.values c.args.args.now
      (subst (λ z. CanCut c.args.layer (picks.Inputs c.args.first) c.args.bank.now c.args.name.now z c.args.args.now) (sym c.state.view_is) c.requires.can)
      c.in-Some.operation.now c.as_slice-in-Some.result.now
      (found_so (g.B.Book.kinds c.args.book.now) c.args.layer (picks.Inputs c.args.first) c.args.name.now c.as_slice.result.now
      (Some c.in-Some.operation.now) c.as_slice.ensures c.in-Some.ensures) c.as_slice-in-Some.ensures;
}

pub returns-in-None-clause-grows : goal.returns-in-None-clause-grows
returns-in-None-clause-grows g c = extends_self c.args.bank.now

pub returns-in_ok-done-in-Some-clause-single : goal.returns-in_ok-done-in-Some-clause-single
returns-in_ok-done-in-Some-clause-single g c = c.in_ok-done-in-Some.ensures.single

pub returns-in_ok-done-in-Some-clause-bank : goal.returns-in_ok-done-in-Some-clause-bank
returns-in_ok-done-in-Some-clause-bank g c = c.block.ensures.bank

pub returns-in_ok-done-in-Some-clause-grows : goal.returns-in_ok-done-in-Some-clause-grows
returns-in_ok-done-in-Some-clause-grows g c = c.block.ensures.grows

pub returns-in_err-done-in-Some-clause-bank : goal.returns-in_err-done-in-Some-clause-bank
returns-in_err-done-in-Some-clause-bank g c = c.block.ensures.bank

pub returns-in_err-done-in-Some-clause-grows : goal.returns-in_err-done-in-Some-clause-grows
returns-in_err-done-in-Some-clause-grows g c = c.block.ensures.grows

pub returns-in_ok-done-in-Some-clause-nodes : goal.returns-in_ok-done-in-Some-clause-nodes
returns-in_ok-done-in-Some-clause-nodes g c =
    let kinds = g.B.Book.kinds c.args.book.now in
    let l = c.args.layer in
    let name = c.args.name.now in
    let o = c.in-Some.operation.now in
    call_nodes kinds l c.args.first name o c.state.inside.values c.as_slice-in-Some.result.now c.args.args.now c.args.bank.now c.as_slice-in-Some.ensures
    (found_so kinds l (picks.Inputs c.args.first) name c.as_slice.result.now (Some o) c.as_slice.ensures c.in-Some.ensures) c.args.state.now
    c.block.new.bank c.state.view_is c.in_ok-done-in-Some.ensures.nodes
