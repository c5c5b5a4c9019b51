-- What the tables beside the assigned literals say.
use Rattle.std.specs.Prelude.{◌≡◌, ℕ, ◌<◌, ◌≤◌, ◌*◌, Bool, List, length, get_or, slice_get, Some, option_map}
use Rattle.ygg_cnf_set.specs.LiteralSet.{InSet}
use Rattle.ygg_cnf.specs.declared.lit.Lit.{Lit}
use Rattle.ygg_watch.specs.Trail.{IsAt}
use Rattle.ygg_watch.specs.declared.entry.Entry.{Entry}

-- no variable is assigned twice, and each is below variable_count
pub record IsTrail (trail : List Entry) (variable_count : ℕ) : Type 0 where
  pub distinct : (p q : ℕ) (d e : Entry) → IsAt trail p d → IsAt trail q e → d.lit.var ≡ e.lit.var → p ≡ q
  pub within : (q : ℕ) (e : Entry) → IsAt trail q e → e.lit.var < variable_count

-- the levels rise along the trail, and level j + 1 begins at the place starts[j]
pub record IsLevelled (trail : List Entry) (starts : List ℕ) : Type 0 where
  pub rising : (i j : ℕ) → i < j → j < length starts → get_or starts i 0 < get_or starts j 0
  pub count : (j : ℕ) → j < length starts → j ≤ get_or starts j 0
  pub within : (j : ℕ) → j < length starts → get_or starts j 0 < length trail
  pub below : (j q : ℕ) (e : Entry) → j < length starts → IsAt trail q e → q < get_or starts j 0 → e.level ≤ j
  pub from : (j q : ℕ) (e : Entry) → j < length starts → IsAt trail q e → get_or starts j 0 ≤ q → j < e.level
  pub low : (q : ℕ) (e : Entry) → IsAt trail q e → e.level ≤ length starts

-- the truths are the set of the assigned literals, each stands at its variable's place, and each entry's place is kept
pub record IsKept (trail : List Entry) (truth : List Bool) (places : List ℕ) (variable_count : ℕ) : Type 0 where
  pub here : (q : ℕ) (e : Entry) → IsAt trail q e → InSet truth e.lit
  pub there : (y : Lit) → InSet truth y → option_map (λ (e : Entry). e.lit) (slice_get trail (get_or places y.var 0)) ≡ Some y
  pub size : length truth ≡ 2 * variable_count
  pub places_size : length places ≡ variable_count
  pub placed : (q : ℕ) (e : Entry) → IsAt trail q e → get_or places e.lit.var 0 ≡ q
