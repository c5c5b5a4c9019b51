-- The places that a term reaches, by the test of what it reaches.
use Rattle.std.proofs.Common.{◌≡◌, ℕ, Bool, true, false, List, ◌↔◌, refl, sym}
use Rattle.ygg_bank.specs.Nodes.{IsBank, Stands}
use Rattle.ygg_bank.specs.Reaching.{has_place, Reaches}
use Rattle.ygg_bank.specs.declared.node.Id.{Id}
use Rattle.ygg_bank.specs.declared.node.Node.{Node}
use Rattle.ygg_gates.specs.Groups.{reaches}
use Rattle.ygg_gates.specs.Reaching.{TestsReaching}

both_ways : (a b : Bool) → (a ≡ true → b ≡ true) → (b ≡ true → a ≡ true) → a ≡ b
both_ways true true f g = refl
both_ways true false f g = sym (f refl)
both_ways false true f g = g refl
both_ways false false f g = refl

-- a list of just the places that are reached has those that pass the test
pub places_tested : (nodes : List Node) (term : Id) (places : List ℕ) → IsBank nodes → Stands nodes term → TestsReaching →
    ((p : ℕ) → (has_place places p ≡ true) ↔ Reaches nodes term.0 p) → (p : ℕ) → has_place places p ≡ reaches nodes term p
places_tested nodes term places bank stands tests each p =
    let t = tests nodes term p bank stands in
    both_ways (has_place places p) (reaches nodes term p) (λ h. t.1 ((each p).0 h)) (λ h. (each p).1 (t.0 h))
