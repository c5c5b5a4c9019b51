-- What the search keeps of a propagation.
use Rattle.std.specs.Prelude.{◌≡◌, ℕ, ◌<◌, ◌≤◌, Bool, false, not, cond, List, [], ◌∷◌, None, eqb}
use Rattle.ygg_solver.specs.Learning.{IsSound}
use Rattle.ygg_watch.specs.Trail.{IsAt, IsQuietBefore}
use Rattle.ygg_watch.specs.declared.entry.Entry.{Entry}
use Rattle.ygg_watch.specs.Propagation.{Propagation}

-- no variable is assigned twice and each reason is one; before each decision no clause was false or left with one literal,
-- which is why learned clauses teach; a decision's level is above those before it, above 0, and at most the open one
pub record IsReady (p : Propagation) : Type 0 where
  pub sound : IsSound p.clauses p.trail
  pub quiet : (q : ℕ) (e : Entry) → IsAt p.trail q e → e.reason ≡ None → IsQuietBefore p.clauses p.trail q
  pub rises : (q r : ℕ) (d e : Entry) → IsAt p.trail q d → IsAt p.trail r e → q < r → e.reason ≡ None → d.level < e.level
  pub low : (q : ℕ) (e : Entry) → IsAt p.trail q e → e.level ≤ p.level
  pub above : (q : ℕ) (e : Entry) → IsAt p.trail q e → e.reason ≡ None → 0 < e.level
  pub within : (q : ℕ) (e : Entry) → IsAt p.trail q e → e.lit.var < p.variable_count

-- the value that the trail gives a variable, and false where it gives none
abbrev pub trail_value : List Entry → ℕ → Bool
trail_value [] var = false
trail_value (e ∷ es) var = cond (eqb e.lit.var var) (not e.lit.negated) (trail_value es var)
