-- What the synchronous and the asynchronous disk do, step by step. Each step names the picks that it takes.
use Rattle.std.specs.Prelude.{◌≡◌, ℕ, Bool, if◌then◌else◌, List, [], ◌∷◌, Option, Some, None}
use Rattle.ygg_value.specs.Number.{Digits, Grid}
use Rattle.ygg_value.specs.Values.{table_read, table_write}

-- a call on a disk; rows are counted from 0
pub data Call : Type 0 where
  Read : (at : ℕ) → Call
  Write : (at : ℕ) (row : Digits) → Call
  Flush : Call

-- what a whole call answers: a row, or nothing
abbrev pub Reply : Type 0
Reply = Option Digits

-- the choices that nobody but the disk makes, in the order in which they are made
abbrev pub Picks : Type 0
Picks = List Bool

-- a whole call on a synchronous disk, which has one table
abbrev pub sync_calls : Grid → Call → Picks → Reply → Grid → Type 0
sync_calls view (Read at) picks reply view' = (picks ≡ []) × (reply ≡ Some (table_read view at)) × (view' ≡ view)
sync_calls view (Write at row) picks reply view' = (picks ≡ []) × (reply ≡ None) × (view' ≡ table_write view at row)
sync_calls view Flush picks reply view' = (picks ≡ []) × (reply ≡ None) × (view' ≡ view)

-- power fails within a call on a synchronous disk: a pick says whether a row was written
abbrev pub sync_falls : Grid → Call → Picks → Grid → Type 0
sync_falls view (Read at) picks view' = (picks ≡ []) × (view' ≡ view)
sync_falls view (Write at row) picks view' = (kept : Bool) × (picks ≡ kept ∷ []) × (view' ≡ (if kept then table_write view at row else view))
sync_falls view Flush picks view' = (picks ≡ []) × (view' ≡ view)

-- the tables of an asynchronous disk: what reads see, and what power loss leaves
pub record Tables : Type 0 where
  pub view : Grid
  pub stable : Grid

-- a write is seen at once, and is stable at once where it is kept
abbrev pub written : Bool → Tables → ℕ → Digits → Tables
written kept d at row = record { view = table_write d.view at row; stable = if kept then table_write d.stable at row else d.stable }

-- power is lost, and what was not stable with it
abbrev pub lost : Tables → Tables
lost d = record { view = d.stable; stable = d.stable }

-- a whole call on an asynchronous disk: a pick says whether a write is kept, also where its place is past the end
abbrev pub async_calls : Tables → Call → Picks → Reply → Tables → Type 0
async_calls d (Read at) picks reply d' = (picks ≡ []) × (reply ≡ Some (table_read d.view at)) × (d' ≡ d)
async_calls d (Write at row) picks reply d' = (kept : Bool) × (picks ≡ kept ∷ []) × (reply ≡ None) × (d' ≡ written kept d at row)
async_calls d Flush picks reply d' = (picks ≡ []) × (reply ≡ None) × (d' ≡ record { view = d.view; stable = d.view })

-- power fails within a call on an asynchronous disk: a write takes its pick in the same way, and then power is lost
abbrev pub async_falls : Tables → Call → Picks → Tables → Type 0
async_falls d (Read at) picks d' = (picks ≡ []) × (d' ≡ lost d)
async_falls d (Write at row) picks d' = (kept : Bool) × (picks ≡ kept ∷ []) × (d' ≡ lost (written kept d at row))
async_falls d Flush picks d' = (picks ≡ []) × (d' ≡ lost d)
