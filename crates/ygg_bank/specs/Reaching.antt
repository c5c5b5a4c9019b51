-- What a term reaches, as the least set, and places in ascending order.
use Rattle.std.specs.Prelude.{ℕ, ◌≡◌, ◌+◌, ◌<◌, ◌≤◌, ◌==◌, ◌||◌, Bool, true, false, Some, List, [], ◌∷◌, slice_get}
use Rattle.ygg_bank.specs.declared.node.Node.{Node}
use Rattle.ygg_bank.specs.declared.node.Node.TheVariants.{Input, Const, Bin, Not, Resize, Pick}

-- whether a node has a child at this place
abbrev pub has_child : Node → ℕ → Bool
has_child (Input n w) place = false
has_child (Const k) place = false
has_child (Bin o a b) place = a.0 == place || b.0 == place
has_child (Not a) place = a.0 == place
has_child (Resize a w) place = a.0 == place
has_child (Pick t a b) place = t.0 == place || a.0 == place || b.0 == place

-- a term reaches its own place, and the children of the node at each place that it reaches
pub data Reaches (nodes : List Node) (term : ℕ) : ℕ → Type 0 where
  itself : Reaches nodes term term
  child : (k : ℕ) (n : Node) (p : ℕ) → Reaches nodes term k → slice_get nodes k ≡ Some n → has_child n p ≡ true → Reaches nodes term p

-- whether the place is in the list
abbrev pub has_place : List ℕ → ℕ → Bool
has_place [] place = false
has_place (k ∷ ks) place = k == place || has_place ks place

-- each place is at least this one
abbrev pub AllFrom : ℕ → List ℕ → Type 0
AllFrom least [] = Unit {0}
AllFrom least (k ∷ ks) = (least ≤ k) × AllFrom least ks

-- each place is below this one
abbrev pub AllBelow : ℕ → List ℕ → Type 0
AllBelow most [] = Unit {0}
AllBelow most (k ∷ ks) = (k < most) × AllBelow most ks

-- each place is below those after it
abbrev pub Ascends : List ℕ → Type 0
Ascends [] = Unit {0}
Ascends (k ∷ ks) = AllFrom (k + 1) ks × Ascends ks
