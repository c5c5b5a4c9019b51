use Rattle.std.proofs.Common.{◌≡◌, List, OnOk, IfOk, sym, subst, arith}
use Rattle.ygg_oblige_parts.specs.ygg_bank.Makes.{Out}
use Rattle.ygg_oblige_parts.specs.ygg_bank.declared.node.Id.{Id}
use Rattle.ygg_oblige_parts.specs.Layers.{closed}
use Rattle.ygg_syntax.specs.declared.tree.Declared.{Declared}
use Rattle.ygg_oblige_parts.specs.ygg_oblige_laws.LayerTerms.{ShapesKept}
use Rattle.ygg_oblige_parts.specs.ygg_oblige_laws.Numbers.{arguments_of}
use Rattle.ygg_oblige_parts.specs.ygg_oblige_laws.TermStates.{fresh_all}
use Rattle.ygg_oblige_parts.specs.Makers.{starting_of}
use Rattle.ygg_oblige_list.specs.InCode.{obligation_of}
use Rattle.ygg_oblige.specs.Numbering.{numbers_in}
use Rattle.ygg_oblige.specs.Parts.{runs_through_in}
use Rattle.ygg_oblige.proofs.KindsBegun.{can_oblige, room}
use Rattle.ygg_oblige.proofs.Chains.{args_from}
use Rattle.ygg_oblige_parts.specs.ygg_bank_proofs_Widths.{extends_both}
use Rattle.ygg_oblige.proofs.terms.whole_term.Goals as goal

pub fresh-requires-clause-kept : goal.fresh-requires-clause-kept
fresh-requires-clause-kept g c = subst (λ (ds : List Declared). ShapesKept ds) (sym c.arguments_of.ensures) c.requires.can.kept

pub fresh-requires-clause-below : goal.fresh-requires-clause-below
fresh-requires-clause-below g c = c.requires.can.free

pub fresh-requires-clause-room : goal.fresh-requires-clause-room
fresh-requires-clause-room g c =
    room (numbers_in c.args.n) c.arguments_of.result.now (arguments_of (obligation_of c.args.obligation)) c.arguments_of.ensures c.requires.can.run
    (omega arith)

pub runs_through-requires-clause-can : goal.runs_through-requires-clause-can
runs_through-requires-clause-can g c =
    let l = c.args.maker.now.layer in
    can_oblige l c.args.maker.now.below c.args.bank.now c.fresh.new.bank (obligation_of c.args.obligation) (numbers_in c.args.n) (starting_of c.args.s.now)
    c.in_ok-args.args c.arguments_of.result.now c.arguments_of.ensures c.requires.can c.fresh.ensures.grows c.in_ok-args.ensures.shape
    c.in_ok-args.ensures.inputs

pub returns-clause-nodes : goal.returns-clause-nodes
returns-clause-nodes g c =
    let kinds = g.B.Book.kinds c.args.maker.now.book.now in
    let l = c.args.maker.now.layer in
    let below = c.args.maker.now.below in
    let L = closed l in
    let o = obligation_of c.args.obligation in
    let s = starting_of c.args.s.now in
    subst (λ (p : Out Id). OnOk c.runs_through.result (c.runs_through.new.bank ≡ p.nodes))
    (args_from (λ ds. fresh_all kinds c.args.n.args ds) c.arguments_of.result.now (arguments_of o)
    (runs_through_in kinds l below o (numbers_in c.args.n) s) c.in_ok-args.args c.args.bank.now c.fresh.new.bank c.arguments_of.ensures
    c.in_ok-args.ensures.form
    c.in_ok-args.ensures.nodes) c.runs_through.ensures.nodes

pub returns-clause-id : goal.returns-clause-id
returns-clause-id g c =
    let kinds = g.B.Book.kinds c.args.maker.now.book.now in
    let l = c.args.maker.now.layer in
    let below = c.args.maker.now.below in
    let L = closed l in
    let o = obligation_of c.args.obligation in
    let s = starting_of c.args.s.now in
    subst (λ (p : Out Id). IfOk c.runs_through.result (λ (id : Id). id ≡ p.value))
    (args_from (λ ds. fresh_all kinds c.args.n.args ds) c.arguments_of.result.now (arguments_of o)
    (runs_through_in kinds l below o (numbers_in c.args.n) s) c.in_ok-args.args c.args.bank.now c.fresh.new.bank c.arguments_of.ensures
    c.in_ok-args.ensures.form
    c.in_ok-args.ensures.nodes) c.runs_through.ensures.id

pub returns-clause-grows : goal.returns-clause-grows
returns-clause-grows g c =
    extends_both c.args.bank.now c.fresh.new.bank c.runs_through.new.bank c.fresh.ensures.grows c.runs_through.ensures.grows
