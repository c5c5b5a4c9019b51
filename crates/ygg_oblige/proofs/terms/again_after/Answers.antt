use Rattle.std.proofs.Common.{◌≡◌, OnOk, IfOk, subst}
use Rattle.ygg_oblige_parts.specs.ygg_bank_proofs_Widths.{extends_both, wider}
use Rattle.ygg_oblige_parts.specs.ygg_bank.Makes.{Out}
use Rattle.ygg_oblige_parts.specs.ygg_bank.declared.node.Id.{Id}
use Rattle.ygg_oblige.specs.Numbering.{numbers_in}
use Rattle.ygg_oblige.specs.Parts.{recovers_alike}
use Rattle.ygg_oblige.proofs.Chains.{again_from}
use Rattle.ygg_oblige.proofs.terms.again_after.Goals as goal

pub join-requires-clause-one : goal.join-requires-clause-one
join-requires-clause-one g c =
    wider c.args.bank.now c.recovers_alike.new.bank c.args.settled 1 c.recovers_alike.ensures.grows c.requires.settled

pub join-requires-clause-two : goal.join-requires-clause-two
join-requires-clause-two g c =
    wider c.args.bank.now c.recovers_alike.new.bank c.args.left.now.reached 1 c.recovers_alike.ensures.grows c.requires.reached

pub implied-requires-clause-two : goal.implied-requires-clause-two
implied-requires-clause-two g c =
    wider c.recovers_alike.new.bank c.join.new.bank c.in_ok-conclusion.conclusion 1 c.join.ensures.grows c.in_ok-conclusion.ensures.width

pub returns-clause-nodes : goal.returns-clause-nodes
returns-clause-nodes g c =
    let kinds = g.B.Book.kinds c.args.maker.now.book.now in
    let l = c.args.maker.now.layer in
    let below = c.args.maker.now.below in
    subst (λ (p : Out Id). OnOk c.implied.result (c.implied.new.bank ≡ p.nodes))
    (again_from kinds (recovers_alike kinds l below (numbers_in c.args.n) c.args.low.now c.args.left.now.fallen) c.args.settled
    c.args.left.now.reached c.in_ok-conclusion.conclusion c.in_ok-hypothesis.hypothesis c.args.bank.now c.recovers_alike.new.bank c.join.new.bank
    c.in_ok-conclusion.ensures.id c.in_ok-conclusion.ensures.nodes c.in_ok-hypothesis.ensures.id c.in_ok-hypothesis.ensures.nodes) c.implied.ensures.nodes

pub returns-clause-id : goal.returns-clause-id
returns-clause-id g c =
    let kinds = g.B.Book.kinds c.args.maker.now.book.now in
    let l = c.args.maker.now.layer in
    let below = c.args.maker.now.below in
    subst (λ (p : Out Id). IfOk c.implied.result (λ (id : Id). id ≡ p.value))
    (again_from kinds (recovers_alike kinds l below (numbers_in c.args.n) c.args.low.now c.args.left.now.fallen) c.args.settled
    c.args.left.now.reached c.in_ok-conclusion.conclusion c.in_ok-hypothesis.hypothesis c.args.bank.now c.recovers_alike.new.bank c.join.new.bank
    c.in_ok-conclusion.ensures.id c.in_ok-conclusion.ensures.nodes c.in_ok-hypothesis.ensures.id c.in_ok-hypothesis.ensures.nodes) c.implied.ensures.id

pub returns-in_err-hypothesis-clause-grows : goal.returns-in_err-hypothesis-clause-grows
returns-in_err-hypothesis-clause-grows g c =
    extends_both c.args.bank.now c.recovers_alike.new.bank c.join.new.bank c.recovers_alike.ensures.grows c.join.ensures.grows

pub returns-clause-grows : goal.returns-clause-grows
returns-clause-grows g c =
    extends_both c.args.bank.now c.recovers_alike.new.bank c.implied.new.bank c.recovers_alike.ensures.grows
    (extends_both c.recovers_alike.new.bank c.join.new.bank c.implied.new.bank c.join.ensures.grows c.implied.ensures.grows)
