-- What holds of the watches of the clauses that were looked at.
use Rattle.std.specs.Prelude.{◌≡◌, ◌≢◌, ℕ, ◌<◌, ◌≤◌, ◌+◌, ◌*◌, List, length, get_or, Contains, ◌⊎◌, slice_get, Some}
use Rattle.ygg_cnf.specs.Literals.{complement}
use Rattle.ygg_cnf.specs.declared.lit.Lit.{Lit}
use Rattle.ygg_watch.specs.Status.{IsFree}
use Rattle.ygg_watch.specs.Propagation.{IsFalse}
use Rattle.ygg_watch.specs.Trail.{IsAt, IsOnTrail}
use Rattle.ygg_watch.specs.declared.entry.Entry.{Entry}
use Rattle.ygg_watch.specs.Lists.{lit_of, sibling, IsLinked, IsOwn, Among}
use Rattle.ygg_watch.specs.declared.frame.Checkpoint.{Checkpoint}
use Rattle.ygg_watch.specs.declared.visit.Judged.{Judged}
use Rattle.ygg_watch.specs.declared.visit.Judged.TheVariants.{Keep, Move, Imply, False}

-- what was kept when a level was opened
abbrev pub frame_of : List Checkpoint → ℕ → Checkpoint
frame_of frames j = get_or frames j (record { head = 0; seen = 0 })

-- the literal is assigned, and stays so where a level is gone back to whose frame meets the guard
pub record IsHeldTrue (trail : List Entry) (frames : List Checkpoint) (guard : Checkpoint → Type 0) (x : Lit) : Type 0 where
  pub at : ℕ
  pub entry : Entry
  pub is : IsAt trail at entry
  pub same : entry.lit ≡ x
  pub stays : (j : ℕ) → j < length frames → guard (frame_of frames j) → entry.level ≤ j

-- where the first watch is false at a place that was looked at, the second is true
abbrev pub IsHalf : List Entry → List Checkpoint → ℕ → ℕ → Lit → Lit → Type 0
IsHalf trail frames head k a b = (q : ℕ) (e : Entry) → q < head → IsAt trail q e → e.lit ≡ complement a →
    IsHeldTrue trail frames (λ f. (q < f.head) × (k < f.seen)) b

-- the clause has a literal that is true, and stays so
abbrev pub IsSatisfied : List Entry → List Checkpoint → ℕ → List Lit → Type 0
IsSatisfied trail frames k clause = (x : Lit) × (Contains clause x × IsHeldTrue trail frames (λ f. k < f.seen) x)

-- what is kept of each level
pub record IsFramed (trail : List Entry) (frames : List Checkpoint) (head seen : ℕ) : Type 0 where
  pub head_within : head ≤ length trail
  pub heads : (j : ℕ) → j < length frames → (frame_of frames j).head ≤ head
  pub seens : (j : ℕ) → j < length frames → (frame_of frames j).seen ≤ seen
  pub heads_rise : (i j : ℕ) → i < j → j < length frames → (frame_of frames i).head ≤ (frame_of frames j).head
  pub seens_rise : (i j : ℕ) → i < j → j < length frames → (frame_of frames i).seen ≤ (frame_of frames j).seen
  pub low : (j q : ℕ) (e : Entry) → j < length frames → IsAt trail q e → q < (frame_of frames j).head → e.level ≤ j

-- the clause k is watched, or is satisfied
abbrev pub IsWatchedAt : List Lit → List Entry → List Checkpoint → ℕ → ℕ → List Lit → Type 0
IsWatchedAt watched trail frames head k clause =
    (IsLinked watched (2 * k) × (IsHalf trail frames head k (lit_of watched (2 * k)) (lit_of watched (2 * k + 1))
    × IsHalf trail frames head k (lit_of watched (2 * k + 1)) (lit_of watched (2 * k))))
    ⊎ IsSatisfied trail frames k clause

-- each clause that was seen is watched, or is satisfied
abbrev pub IsWatching : List (List Lit) → List Lit → List Entry → List Checkpoint → ℕ → ℕ → Type 0
IsWatching clauses watched trail frames head seen = (k : ℕ) (clause : List Lit) → k < seen → slice_get clauses k ≡ Some clause →
    IsWatchedAt watched trail frames head k clause

-- each watch of the literal that is not pending has a true literal beside it
abbrev pub IsDone : List Lit → List Entry → ℕ → List ℕ → Type 0
IsDone watched trail c pending = (n : ℕ) → IsOwn watched c n → (Among pending n → ⊥) → IsOnTrail trail (lit_of watched (sibling n))

-- what a look at a clause says of the other watch
abbrev pub IsJudged : List Lit → Lit → List Entry → Judged → Type 0
IsJudged clause other trail Keep = IsOnTrail trail other
IsJudged clause other trail (Move y) = Contains clause y × ((y ≢ other) × (IsFalse trail y → ⊥))
IsJudged clause other trail Imply = IsFree trail other × ((y : Lit) → Contains clause y → y ≢ other → IsFalse trail y)
IsJudged clause other trail False = (y : Lit) → Contains clause y → IsFalse trail y

-- the two watches of the clause are of two literals, and neither is false or one is true
abbrev pub IsStanding : List Lit → List Entry → ℕ → Type 0
IsStanding watched trail k =
    IsLinked watched (2 * k)
    × (((IsFalse trail (lit_of watched (2 * k)) → ⊥) × (IsFalse trail (lit_of watched (2 * k + 1)) → ⊥))
    ⊎ (IsOnTrail trail (lit_of watched (2 * k)) ⊎ IsOnTrail trail (lit_of watched (2 * k + 1))))
