-- The first list of picks that passes a test.
use Rattle.std.specs.Prelude.{◌≡◌, ℕ, Bool, ◌++◌, Option, Some, None}
use Rattle.ygg_meaning.specs.Machine.{Picks}
use Rattle.ygg_meaning.specs.Obligations.{NoPicksPass}
use Rattle.ygg_meaning.specs.Replayed.{IsFirstPassing}

-- the first list that passes which begins so and goes on with so many picks, if there is one
abbrev pub IsFirstAfter : ℕ → (Picks → Bool) → Picks → Option Picks → Type 0
IsFirstAfter count test before None = NoPicksPass count (λ picks. test (before ++ picks))
IsFirstAfter count test before (Some found) =
    (picks : Picks) × (found ≡ before ++ picks) × IsFirstPassing count (λ picks. test (before ++ picks)) picks
