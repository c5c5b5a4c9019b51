use Rattle.std.proofs.Common.{List, ℕ, sym, subst}
use Rattle.ygg_chain.specs.Places.{IsDistinct, StandsFor}
use Rattle.ygg_chain.proofs.PlaceLemmas.{exact_place}
use Rattle.ygg_chain.proofs.TableLemmas.{distinct_indexed, place_stands}
use Rattle.ygg_chain.proofs.places.Variables.place.Goals as goal

pub returns : goal.returns
returns c =
    exact_place c.args.self.now
    (subst (λ (l : List ℕ). IsDistinct l) c.self.view_is (distinct_indexed c.self.inside.places c.self.inside.order.items c.self.invariant.0)) c.args.lit _
    (subst (λ (l : List ℕ). StandsFor l (record { var = c.in_ok-place.place; negated = c.args.lit.negated }) c.args.lit) c.self.view_is
    (place_stands c.self.inside.places c.self.inside.order.items c.self.invariant.0 c.args.lit c.in_ok-place.place (sym c.in_ok-place.ensures)))
