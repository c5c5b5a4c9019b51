use Rattle.std.proofs.Common.{◌≡◌, List, ℕ, Some, Contains, length, ◌∷◌, [], subst, ap, ◌∙◌, arith, length-append}
use Rattle.ygg_chain.specs.PlaceTable.{place_of, IsIndexOf}
use Rattle.ygg_chain.proofs.TableLemmas.{distinct_indexed, no_place, index_same, index_more}
use Rattle.ygg_chain.proofs.places.Variables.add.Goals as goal

pub invariant_of-self : goal.invariant_of-self
invariant_of-self c = rw c.reserve.ensures.items c.self.invariant

pub insert-requires-clause-fresh : goal.insert-requires-clause-fresh
insert-requires-clause-fresh c =
    no_place c.self.inside.places c.self.inside.order.items c.self.invariant.0 c.args.variable
    (λ m. c.requires (subst (λ (l : List ℕ). Contains l c.args.variable) c.self.view_is m))

pub invariant_of-self-in_err-insert : goal.invariant_of-self-in_err-insert
invariant_of-self-in_err-insert c =
    rw c.reserve.ensures.items
    (index_same c.self.inside.places c.insert.new.self c.self.inside.order.items c.in_err-insert.ensures.err c.self.invariant.0, c.self.invariant.1)

-- the table and the variables as they are in the end
indexed : (c : goal.After-push_reserved) → IsIndexOf c.insert.new.self c.push_reserved.new.self.items
indexed c =
    let fresh = no_place c.self.inside.places c.self.inside.order.items c.self.invariant.0 c.args.variable
    (λ m. c.requires (subst (λ (l : List ℕ). Contains l c.args.variable) c.self.view_is m)) in
    let place : c.len-place.result ≡ length c.self.inside.order.items =
    let k = c.self.inside.order.ok in let e = c.len-place.ensures in omega (arith, k, e) in
    let here : place_of c.insert.new.self c.args.variable ≡ Some (length c.self.inside.order.items) = c.in_ok-insert.ensures.here ∙ ap Some place in
    rw (c.push_reserved.ensures.items, c.reserve.ensures.items)
    (index_more c.self.inside.places c.insert.new.self c.self.inside.order.items c.args.variable c.self.invariant.0 fresh here c.in_ok-insert.ensures.others)

pub invariant_of-self-2 : goal.invariant_of-self-2
invariant_of-self-2 c = (
  indexed c,
  let k = c.self.inside.order.ok in let e = c.len-place.ensures in let below = c.if-place.false in
      let more = length-append c.self.inside.order.items (c.args.variable ∷ []) in
      rw (c.push_reserved.ensures.items, c.reserve.ensures.items) (omega (arith, k, e, below, more)),
)

pub returns-clause-distinct : goal.returns-clause-distinct
returns-clause-distinct c = distinct_indexed c.insert.new.self c.push_reserved.new.self.items (indexed c)
