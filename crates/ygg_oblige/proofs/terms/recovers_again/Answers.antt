use Rattle.std.proofs.Common.{◌≡◌, OnOk, IfOk, subst}
use Rattle.ygg_oblige_parts.specs.ygg_bank_proofs_Widths.{extends_both, wider}
use Rattle.ygg_oblige_parts.specs.ygg_bank.Makes.{Out}
use Rattle.ygg_oblige_parts.specs.ygg_bank.declared.node.Id.{Id}
use Rattle.ygg_oblige_parts.specs.ygg_sym_runs_proofs_Lows.{low_wider}
use Rattle.ygg_oblige_parts.specs.Makers.{starting_of}
use Rattle.ygg_oblige.specs.Numbering.{numbers_in}
use Rattle.ygg_oblige.specs.Parts.{again_after, recovery_cut}
use Rattle.ygg_oblige.proofs.Alike.{on_ok_refused}
use Rattle.ygg_oblige.proofs.Chains.{left_from}
use Rattle.ygg_oblige.proofs.terms.recovers_again.Goals as goal

pub recovery_cut-requires-clause-can : goal.recovery_cut-requires-clause-can
recovery_cut-requires-clause-can g c = record { site = c.requires.site; low_are = c.requires.starting.low; single = c.requires.single }

pub again_after-requires-clause-settled : goal.again_after-requires-clause-settled
again_after-requires-clause-settled g c =
    wider c.args.bank.now c.recovery_cut.new.bank c.args.s.now.settled 1 c.recovery_cut.ensures.grows c.requires.starting.settled

pub again_after-requires-clause-low : goal.again_after-requires-clause-low
again_after-requires-clause-low g c =
    low_wider c.args.bank.now c.recovery_cut.new.bank c.args.maker.now.layer.low.now c.args.s.now.settled_low c.recovery_cut.ensures.grows
    c.requires.starting.low

pub again_after-requires-clause-fallen : goal.again_after-requires-clause-fallen
again_after-requires-clause-fallen g c = c.in_ok-left.ensures.shape

pub again_after-requires-clause-reached : goal.again_after-requires-clause-reached
again_after-requires-clause-reached g c = c.in_ok-left.ensures.width

pub again_after-requires-clause-single : goal.again_after-requires-clause-single
again_after-requires-clause-single g c = c.in_ok-left.ensures.single c.args.n.run c.requires.single

pub returns-clause-nodes : goal.returns-clause-nodes
returns-clause-nodes g c =
    let kinds = g.B.Book.kinds c.args.maker.now.book.now in
    let l = c.args.maker.now.layer in
    let below = c.args.maker.now.below in
    let n = numbers_in c.args.n in
    let s = starting_of c.args.s.now in
    subst (λ (p : Out Id). OnOk c.again_after.result (c.again_after.new.bank ≡ p.nodes))
    (left_from (recovery_cut kinds l below n s.settled_low c.args.bank.now) (again_after kinds l below n s.settled s.settled_low)
    c.in_ok-left.left.fallen c.in_ok-left.left.reached c.recovery_cut.new.bank c.in_ok-left.ensures.end.fallen c.in_ok-left.ensures.end.reached
    c.in_ok-left.ensures.nodes) c.again_after.ensures.nodes

pub returns-clause-id : goal.returns-clause-id
returns-clause-id g c =
    let kinds = g.B.Book.kinds c.args.maker.now.book.now in
    let l = c.args.maker.now.layer in
    let below = c.args.maker.now.below in
    let n = numbers_in c.args.n in
    let s = starting_of c.args.s.now in
    subst (λ (p : Out Id). IfOk c.again_after.result (λ (id : Id). id ≡ p.value))
    (left_from (recovery_cut kinds l below n s.settled_low c.args.bank.now) (again_after kinds l below n s.settled s.settled_low)
    c.in_ok-left.left.fallen c.in_ok-left.left.reached c.recovery_cut.new.bank c.in_ok-left.ensures.end.fallen c.in_ok-left.ensures.end.reached
    c.in_ok-left.ensures.nodes) c.again_after.ensures.id

pub returns-clause-grows : goal.returns-clause-grows
returns-clause-grows g c =
    extends_both c.args.bank.now c.recovery_cut.new.bank c.again_after.new.bank c.recovery_cut.ensures.grows c.again_after.ensures.grows

pub returns-in_err-left-clause-nodes : goal.returns-in_err-left-clause-nodes
returns-in_err-left-clause-nodes g c = on_ok_refused c.from_residual.result _ c.from_residual.ensures.0
