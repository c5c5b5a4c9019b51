-- The textbook form of a disk with a write-back cache: stable rows, and writes that are not yet stable.
use Rattle.std.specs.Prelude.{◌≡◌, ℕ, List, [], ◌∷◌, Some, None, ◌⊎◌}
use Rattle.ygg_value.specs.Number.{Digits, Grid}
use Rattle.ygg_value.specs.Values.{table_read, table_write}
use Rattle.ygg_disk.specs.Disk.{Call, Read, Write, Flush, Reply}

-- a row that is to be written
pub record PendingWrite : Type 0 where
  pub at : ℕ
  pub row : Digits

-- the stable rows and the pending writes, the newest first
pub record Cache : Type 0 where
  pub stable : Grid
  pub pending : List PendingWrite

-- the rows after these writes, of which the oldest, the last in the list, comes first
abbrev pub applied : List PendingWrite → Grid → Grid
applied [] rows = rows
applied (w ∷ before) rows = table_write (applied before rows) w.at w.row

-- some of the writes, in the same order
abbrev pub IsSublist : List PendingWrite → List PendingWrite → Type 0
IsSublist kept [] = kept ≡ []
IsSublist kept (w ∷ before) = IsSublist kept before ⊎ ((rest : List PendingWrite) × (kept ≡ w ∷ rest) × IsSublist rest before)

-- a write has become pending
abbrev pub with_write : Cache → ℕ → Digits → Cache
with_write c at row = record c { pending = record { at = at; row = row } ∷ c.pending }

-- a whole call: a read sees all pending writes, and a flush applies them all in order
abbrev pub pending_calls : Cache → Call → Reply → Cache → Type 0
pending_calls c (Read at) reply c' = (reply ≡ Some (table_read (applied c.pending c.stable) at)) × (c' ≡ c)
pending_calls c (Write at row) reply c' = (reply ≡ None) × (c' ≡ with_write c at row)
pending_calls c Flush reply c' = (reply ≡ None) × (c' ≡ record { stable = applied c.pending c.stable; pending = [] })

-- power loss applies any of the pending writes, in order
abbrev pub pending_loses : Cache → Cache → Type 0
pending_loses c c' = (kept : List PendingWrite) × IsSublist kept c.pending × (c' ≡ record { stable = applied kept c.stable; pending = [] })

-- power fails within a call: a write that is cut is pending when power is lost
abbrev pub pending_falls : Cache → Call → Cache → Type 0
pending_falls c (Read at) c' = pending_loses c c'
pending_falls c (Write at row) c' = pending_loses (with_write c at row) c'
pending_falls c Flush c' = pending_loses c c'
