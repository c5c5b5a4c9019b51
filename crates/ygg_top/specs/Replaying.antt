-- How `replay` ends.
use Rattle.std.specs.Prelude.{◌≡◌, ◌⊎◌, ℕ, ◌≤◌, List, length, Option, Some}
use Rattle.ygg_base.specs.declared.failure.Refusal.{Refusal}
use Rattle.ygg_base.specs.declared.lists.Held.{Held}
use Rattle.ygg_base.specs.declared.status.Status.{Status}
use Rattle.ygg_syntax.specs.declared.tree.File.{File}
use Rattle.ygg_replay.specs.Ending.{Replaying}
use Rattle.ygg_top_command.specs.Refusing.{IsLayerFile, RefusesFile, RefusesUnread, most_bytes}
use Rattle.ygg_top_command.specs.Standing.{DoesWith, IsRefused}

-- `replay` for a layer file of what stands under the schedule's name, the second word after the command: it is refused unread, or its text is replayed
abbrev pub ReplaysStored : File → Option (List ℕ) → Status → List ℕ → Type 0
ReplaysStored f stored status text =
    ((r : Refusal) × RefusesUnread most_bytes 2 stored r × IsRefused r status text)
    ⊎ ((bytes : List ℕ) × (stored ≡ Some bytes) × (length bytes ≤ most_bytes) × Replaying f bytes status text)

-- the same of what stands under the file's name: it is refused, before the schedule is looked at, or it is a layer file without a fault
abbrev pub Replays : Option (List Held) → (schedule : List ℕ) → Option (List ℕ) → Status → List ℕ → Type 0
Replays files schedule stored status text =
    ((r : Refusal) × RefusesFile stored r × IsRefused r status text)
    ⊎ ((bytes : List ℕ) × (f : File) × (stored ≡ Some bytes) × IsLayerFile bytes f × DoesWith (ReplaysStored f) files schedule status text)

-- `replay` of a file's name and a schedule's name
abbrev pub ReplaysNamed : Option (List Held) → (file schedule : List ℕ) → Status → List ℕ → Type 0
ReplaysNamed files file schedule = DoesWith (Replays files schedule) files file
