-- The asynchronous disk, whose picks fall at the writes, leaves what the disk with a write-back cache leaves.
use Rattle.std.specs.Prelude.{◌≡◌, ◌↔◌, List, [], ◌∷◌}
use Rattle.ygg_value.specs.Number.{Grid}
use Rattle.ygg_disk.specs.Disk.{Call, Reply, Picks, Tables, lost, async_calls, async_falls}
use Rattle.ygg_disk.specs.Pending.{Cache, pending_calls, pending_falls, pending_loses}

-- what is seen of a disk's step
pub data Event : Type 0 where
  -- a whole call and its reply
  Did : (call : Call) (reply : Reply) → Event
  -- power failed within a call
  Cut : (call : Call) → Event
  -- power failed between calls
  Lost : Event

-- from these tables the asynchronous disk can go through the events, and the next power loss then leaves the rows
abbrev pub async_leaves : Tables → List Event → Grid → Type 0
async_leaves d [] rows = rows ≡ d.stable
async_leaves d (Did call reply ∷ es) rows = (picks : Picks) × (d' : Tables) × async_calls d call picks reply d' × async_leaves d' es rows
async_leaves d (Cut call ∷ es) rows = (picks : Picks) × (d' : Tables) × async_falls d call picks d' × async_leaves d' es rows
async_leaves d (Lost ∷ es) rows = async_leaves (lost d) es rows

-- the same of the disk with a write-back cache
abbrev pub pending_leaves : Cache → List Event → Grid → Type 0
pending_leaves c [] rows = (c' : Cache) × pending_loses c c' × (rows ≡ c'.stable)
pending_leaves c (Did call reply ∷ es) rows = (c' : Cache) × pending_calls c call reply c' × pending_leaves c' es rows
pending_leaves c (Cut call ∷ es) rows = (c' : Cache) × pending_falls c call c' × pending_leaves c' es rows
pending_leaves c (Lost ∷ es) rows = (c' : Cache) × pending_loses c c' × pending_leaves c' es rows

-- with the same rows at the start, the two disks can give the same replies and leave the same rows at the next power loss
abbrev pub Agree : Type 0
Agree =
    (start : Grid) (es : List Event) (rows : Grid) →
    async_leaves (record { view = start; stable = start }) es rows ↔ pending_leaves (record { stable = start; pending = [] }) es rows
