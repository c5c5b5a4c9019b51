-- What replaying a schedule of an obligation shows.
use Rattle.std.specs.Prelude.{◌≡◌, ℕ, zero, suc, Bool, true, false, IsTrue, All, List, [], ◌∷◌, ◌++◌, length, map, ◌⊎◌}
use Rattle.ygg_meaning.specs.Environments.{Env}
use Rattle.ygg_meaning.specs.Machine.{Picks, Machine}
use Rattle.ygg_meaning.specs.Layer.{ClosedLayer}
use Rattle.ygg_meaning.specs.Related.{all_true}
use Rattle.ygg_meaning.specs.Obligations.{Obligation, CutOf, CutTickOf, Again, Schedule}
use Rattle.ygg_meaning.specs.Violates.{End, hypotheses, most, spec_after, passes, FallsSo, Meets, Violates}

-- how a replay ends
pub data Replayed : Type 0 where
  Shows : Replayed
  Hypothesis : (number : ℕ) → Replayed
  Passes : (picks : Picks) → Replayed

-- all lists of this many picks, in the order of their binary numbers
abbrev pub pick_lists : ℕ → List Picks
pick_lists zero = [] ∷ []
pick_lists (suc n) = map (λ picks. false ∷ picks) (pick_lists n) ++ map (λ picks. true ∷ picks) (pick_lists n)

-- the first list of this many picks that passes the test
abbrev pub IsFirstPassing : ℕ → (Picks → Bool) → Picks → Type 0
IsFirstPassing count test picks =
    (before after : List Picks) × (pick_lists count ≡ before ++ picks ∷ after) × All (λ p. test p ≡ false) before × (test picks ≡ true)

-- whether the obligation has a stop that must be reached
abbrev pub has_stop : Obligation → Bool
has_stop (CutOf o) = true
has_stop (CutTickOf t) = true
has_stop Again = true
has_stop _ = false

-- the first false one of the hypotheses, counted from 0; after those on the first states comes that the stop is reached
abbrev pub IsFirstFalse : ClosedLayer → Machine Env Bool → Obligation → Schedule → ℕ → Type 0
IsFirstFalse L M o x number =
    ((before after : List Bool) × (hypotheses L o x ≡ before ++ false ∷ after) × IsTrue (all_true before) × (number ≡ length before))
    ⊎ (IsTrue (all_true (hypotheses L o x)) × IsTrue (has_stop o) × ((fallen : Env) → ¬ (FallsSo L M o x fallen)) × (number ≡ length (hypotheses L o x)))

-- what a replay shows
abbrev pub Replays : ClosedLayer → Machine Env Bool → Obligation → Schedule → Replayed → Type 0
Replays L M o x Shows = Violates L M o x
Replays L M o x (Hypothesis number) = IsFirstFalse L M o x number
Replays L M o x (Passes picks) =
    (end : End) × Meets L M o x end × IsFirstPassing (most L o) (λ picks. passes L o end (spec_after L o x picks)) picks
