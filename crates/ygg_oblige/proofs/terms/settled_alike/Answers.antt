use Rattle.std.proofs.Common.{◌≡◌, OnOk, IfOk, subst}
use Rattle.ygg_oblige_parts.specs.ygg_bank_proofs_Widths.{extends_both, wider}
use Rattle.ygg_oblige_parts.specs.ygg_bank.Makes.{Out}
use Rattle.ygg_oblige_parts.specs.ygg_bank.declared.node.Id.{Id}
use Rattle.ygg_oblige_parts.specs.Layers.{closed, terms_in}
use Rattle.ygg_oblige_parts.specs.ygg_oblige_laws.TermStates.{all_compared, settled_made}
use Rattle.ygg_oblige.proofs.Alike.{end_wider}
use Rattle.ygg_oblige.proofs.Chains.{alike_from}
use Rattle.ygg_oblige.proofs.terms.settled_alike.Goals as goal

pub settled-requires-clause-layer : goal.settled-requires-clause-layer
settled-requires-clause-layer g c = c.requires.site.layer

pub settled-requires-clause-shaped : goal.settled-requires-clause-shaped
settled-requires-clause-shaped g c = c.requires.fallen

pub same_ends-requires-clause-one : goal.same_ends-requires-clause-one
same_ends-requires-clause-one g c =
    end_wider c.args.maker.now.layer c.args.bank.now c.settled.new.bank c.args.one.now c.settled.ensures.grows c.requires.one

pub same_ends-requires-clause-two : goal.same_ends-requires-clause-two
same_ends-requires-clause-two g c =
    end_wider c.args.maker.now.layer c.args.bank.now c.settled.new.bank c.args.two.now c.settled.ensures.grows c.requires.two

pub join-requires-clause-one : goal.join-requires-clause-one
join-requires-clause-one g c =
    wider c.settled.new.bank c.same_ends.new.bank c.in_ok-side.side 1 c.same_ends.ensures.grows c.in_ok-side.ensures.width

pub returns-clause-nodes : goal.returns-clause-nodes
returns-clause-nodes g c =
    let kinds = g.B.Book.kinds c.args.maker.now.book.now in
    let l = c.args.maker.now.layer in
    let one = c.args.one.now in
    let two = c.args.two.now in
    subst (λ (p : Out Id). OnOk c.join.result (c.join.new.bank ≡ p.nodes))
    (alike_from kinds (settled_made kinds (terms_in kinds l) (closed l) c.args.fallen.now) (λ xs ys. all_compared kinds xs ys) one.memory one.low
    two.memory two.low c.in_ok-side.side c.in_ok-same.same c.args.bank.now c.settled.new.bank c.same_ends.new.bank c.in_ok-side.ensures.id
    c.in_ok-side.ensures.nodes c.in_ok-same.ensures.id c.in_ok-same.ensures.nodes) c.join.ensures.nodes

pub returns-clause-id : goal.returns-clause-id
returns-clause-id g c =
    let kinds = g.B.Book.kinds c.args.maker.now.book.now in
    let l = c.args.maker.now.layer in
    let one = c.args.one.now in
    let two = c.args.two.now in
    subst (λ (p : Out Id). IfOk c.join.result (λ (id : Id). id ≡ p.value))
    (alike_from kinds (settled_made kinds (terms_in kinds l) (closed l) c.args.fallen.now) (λ xs ys. all_compared kinds xs ys) one.memory one.low
    two.memory two.low c.in_ok-side.side c.in_ok-same.same c.args.bank.now c.settled.new.bank c.same_ends.new.bank c.in_ok-side.ensures.id
    c.in_ok-side.ensures.nodes c.in_ok-same.ensures.id c.in_ok-same.ensures.nodes) c.join.ensures.id

pub returns-in_err-same-clause-grows : goal.returns-in_err-same-clause-grows
returns-in_err-same-clause-grows g c =
    extends_both c.args.bank.now c.settled.new.bank c.same_ends.new.bank c.settled.ensures.grows c.same_ends.ensures.grows

pub returns-clause-grows : goal.returns-clause-grows
returns-clause-grows g c =
    extends_both c.args.bank.now c.settled.new.bank c.join.new.bank c.settled.ensures.grows
    (extends_both c.settled.new.bank c.same_ends.new.bank c.join.new.bank c.same_ends.ensures.grows c.join.ensures.grows)
