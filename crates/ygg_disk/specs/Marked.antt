-- A disk with a write-back cache that marks each pending write by a pick, which says whether the next power loss keeps it.
use Rattle.std.specs.Prelude.{◌≡◌, ℕ, Bool, if◌then◌else◌, List, [], ◌∷◌, map}
use Rattle.ygg_value.specs.Number.{Digits, Grid}
use Rattle.ygg_disk.specs.Disk.{Call, Read, Write, Flush, Reply}
use Rattle.ygg_disk.specs.Pending.{PendingWrite, Cache, applied, pending_calls, pending_falls, pending_loses}

-- a pending write, and whether power loss keeps it
pub record MarkedWrite : Type 0 where
  pub write : PendingWrite
  pub kept : Bool

-- the stable rows and the pending writes, the newest first
pub record MarkedCache : Type 0 where
  pub stable : Grid
  pub writes : List MarkedWrite

-- the same without the marks
abbrev pub cache_of : MarkedCache → Cache
cache_of m = record { stable = m.stable; pending = map (λ w. w.write) m.writes }

-- the writes that power loss keeps
abbrev pub kept_of : List MarkedWrite → List PendingWrite
kept_of [] = []
kept_of (w ∷ before) = if w.kept then w.write ∷ kept_of before else kept_of before

-- a write has become pending, with its mark
abbrev pub with_mark : Bool → MarkedCache → ℕ → Digits → MarkedCache
with_mark kept m at row = record m { writes = record { write = record { at = at; row = row }; kept = kept } ∷ m.writes }

-- all pending writes have become stable
abbrev pub marked_flushed : MarkedCache → MarkedCache
marked_flushed m = record { stable = applied (cache_of m).pending m.stable; writes = [] }

-- power is lost, and what was not kept with it
abbrev pub marked_lost : MarkedCache → MarkedCache
marked_lost m = record { stable = applied (kept_of m.writes) m.stable; writes = [] }

-- the mark of a write is its pick; a read and a flush take none
abbrev pub marks : MarkedCache → Call → List Bool → MarkedCache → Type 0
marks m (Read at) picks m' = (picks ≡ []) × (m' ≡ m)
marks m (Write at row) picks m' = (kept : Bool) × (picks ≡ kept ∷ []) × (m' ≡ with_mark kept m at row)
marks m Flush picks m' = (picks ≡ []) × (m' ≡ marked_flushed m)

-- the same where power fails within the call: a write that is cut is marked, and then power is lost
abbrev pub marks_cut : MarkedCache → Call → List Bool → MarkedCache → Type 0
marks_cut m (Read at) picks m' = (picks ≡ []) × (m' ≡ marked_lost m)
marks_cut m (Write at row) picks m' = (kept : Bool) × (picks ≡ kept ∷ []) × (m' ≡ marked_lost (with_mark kept m at row))
marks_cut m Flush picks m' = (picks ≡ []) × (m' ≡ marked_lost m)

-- a whole call is one of the disk with a write-back cache, with its marks
abbrev pub marked_calls : MarkedCache → Call → List Bool → Reply → MarkedCache → Type 0
marked_calls m call picks reply m' = pending_calls (cache_of m) call reply (cache_of m') × marks m call picks m'

-- power that fails within a call does what it does to the disk with a write-back cache, and keeps what is marked
abbrev pub marked_falls : MarkedCache → Call → List Bool → MarkedCache → Type 0
marked_falls m call picks m' = pending_falls (cache_of m) call (cache_of m') × marks_cut m call picks m'

-- so does power that fails between calls
abbrev pub marked_loses : MarkedCache → MarkedCache → Type 0
marked_loses m m' = pending_loses (cache_of m) (cache_of m') × (m' ≡ marked_lost m)
