-- The kinds of disks, each with its states, its steps and how many picks they take.
use Rattle.std.specs.Prelude.{ℕ, Bool, if◌then◌else◌}
use Rattle.ygg_value.specs.Number.{Grid}
use Rattle.ygg_base.specs.declared.geometry.DiskKind.{DiskKind}
use Rattle.ygg_base.specs.declared.geometry.DiskKind.TheVariants.{Sync, Async}
use Rattle.ygg_disk.specs.Disk.{Call, Read, Write, Flush, Reply, Picks, Tables, lost, sync_calls, sync_falls, async_calls, async_falls}

-- how many picks a call takes of which a write takes so many where it is whole, and so many where power cuts it; a read and a flush take none
abbrev pub for_writes : ℕ → ℕ → Call → Bool → ℕ
for_writes whole cut_short (Write at row) cut = if cut then cut_short else whole
for_writes whole cut_short (Read at) cut = 0
for_writes whole cut_short Flush cut = 0

-- a kind of disk: its states, and its steps
pub record Model : Type 1 where
  pub State : Type 0
  -- the state whose tables all are this one
  pub start : Grid → State
  -- the table that reads see
  pub view : State → Grid
  pub Calls : State → Call → Picks → Reply → State → Type 0
  pub Falls : State → Call → Picks → State → Type 0
  -- what power loss leaves
  pub lost : State → State
  -- how many picks a call takes, whole or cut by power
  pub takes : Call → Bool → ℕ

-- a synchronous disk: a write takes a pick only where power cuts it
abbrev pub sync_model : Model
sync_model = record {
  State = Grid;
  start = λ table. table;
  view = λ view. view;
  Calls = sync_calls;
  Falls = sync_falls;
  lost = λ view. view;
  takes = for_writes 0 1;
}

-- an asynchronous disk: each write takes a pick
abbrev pub async_model : Model
async_model = record {
  State = Tables;
  start = λ table. record { view = table; stable = table };
  view = λ d. d.view;
  Calls = async_calls;
  Falls = async_falls;
  lost = lost;
  takes = for_writes 1 1;
}

-- the model of a kind
abbrev pub model_of : DiskKind → Model
model_of Sync = sync_model
model_of Async = async_model

-- a disk of some kind in a state
pub record Disk : Type 0 where
  pub kind : DiskKind
  pub state : (model_of kind).State
