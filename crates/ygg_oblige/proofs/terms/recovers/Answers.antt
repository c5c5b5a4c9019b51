use Rattle.std.proofs.Common.{◌≡◌, OnOk, IfOk, subst}
use Rattle.ygg_oblige_parts.specs.ygg_bank_proofs_Widths.{extends_both}
use Rattle.ygg_oblige_parts.specs.ygg_bank.Makes.{Out}
use Rattle.ygg_oblige_parts.specs.ygg_bank.declared.node.Id.{Id}
use Rattle.ygg_oblige_parts.specs.Layers.{closed, terms_in}
use Rattle.ygg_oblige_parts.specs.Sites.{below_in}
use Rattle.ygg_oblige_parts.specs.ygg_oblige_laws.Terms.{recovered}
use Rattle.ygg_oblige_list.specs.InCode.{obligation_of}
use Rattle.ygg_oblige.specs.Parts.{woken}
use Rattle.ygg_oblige.proofs.Alike.{wake_later}
use Rattle.ygg_oblige.proofs.Chains.{end_from}
use Rattle.ygg_oblige.proofs.terms.recovers.Goals as goal

pub recovered-requires-clause-can : goal.recovered-requires-clause-can
recovered-requires-clause-can g c = c.requires.can.recovers

pub woken-requires-clause-bank : goal.woken-requires-clause-bank
woken-requires-clause-bank g c = c.recovered.ensures.bank

pub woken-requires-clause-can : goal.woken-requires-clause-can
woken-requires-clause-can g c =
    wake_later c.args.maker.now.layer c.args.maker.now.below c.args.bank.now c.recovered.new.bank (obligation_of c.args.obligation) c.args.n.wake
    c.args.hypothesis c.args.vars.now c.args.args.now c.args.fallen.now c.recovered.ensures.grows
    (c.in_ok-end.ensures.single c.args.n.wake c.requires.can.recovers.single) c.requires.can

pub woken-requires-clause-end : goal.woken-requires-clause-end
woken-requires-clause-end g c = c.in_ok-end.ensures.shape

pub returns-clause-nodes : goal.returns-clause-nodes
returns-clause-nodes g c =
    let kinds = g.B.Book.kinds c.args.maker.now.book.now in
    let l = c.args.maker.now.layer in
    let below = c.args.maker.now.below in
    let e = c.in_ok-end.end in
    subst (λ (p : Out Id). OnOk c.woken.result (c.woken.new.bank ≡ p.nodes))
    (end_from (recovered kinds (terms_in kinds l) (closed l) (below_in below) c.args.n.wake c.args.fallen.now c.args.bank.now)
    (woken kinds l below (obligation_of c.args.obligation) c.args.hypothesis c.args.vars.now c.args.args.now c.args.fallen.now) e.answer e.memory e.low
    c.recovered.new.bank c.in_ok-end.ensures.end.answer c.in_ok-end.ensures.end.memory c.in_ok-end.ensures.end.low c.in_ok-end.ensures.nodes)
    c.woken.ensures.nodes

pub returns-clause-id : goal.returns-clause-id
returns-clause-id g c =
    let kinds = g.B.Book.kinds c.args.maker.now.book.now in
    let l = c.args.maker.now.layer in
    let below = c.args.maker.now.below in
    let e = c.in_ok-end.end in
    subst (λ (p : Out Id). IfOk c.woken.result (λ (id : Id). id ≡ p.value))
    (end_from (recovered kinds (terms_in kinds l) (closed l) (below_in below) c.args.n.wake c.args.fallen.now c.args.bank.now)
    (woken kinds l below (obligation_of c.args.obligation) c.args.hypothesis c.args.vars.now c.args.args.now c.args.fallen.now) e.answer e.memory e.low
    c.recovered.new.bank c.in_ok-end.ensures.end.answer c.in_ok-end.ensures.end.memory c.in_ok-end.ensures.end.low c.in_ok-end.ensures.nodes) c.woken.ensures.id

pub returns-clause-grows : goal.returns-clause-grows
returns-clause-grows g c =
    extends_both c.args.bank.now c.recovered.new.bank c.woken.new.bank c.recovered.ensures.grows c.woken.ensures.grows
