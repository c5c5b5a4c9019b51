-- How `explain` ends.
use Rattle.std.specs.Prelude.{◌≡◌, ◌⊎◌, ℕ, ◌≤◌, List, length, Option, Some}
use Rattle.ygg_base.specs.declared.failure.Refusal.{Refusal}
use Rattle.ygg_base.specs.declared.lists.Held.{Held}
use Rattle.ygg_base.specs.declared.status.Status.{Status}
use Rattle.ygg_syntax.specs.declared.tree.File.{File}
use Rattle.ygg_explain.specs.Ending.{Explaining}
use Rattle.ygg_top_command.specs.Refusing.{IsLayerFile, RefusesFile, RefusesUnread, most_bytes}
use Rattle.ygg_top_command.specs.Standing.{DoesWith, IsRefused}

-- `explain` for a layer file of what stands under the schedule's name, the second word after the command: it is refused unread, or its text is explained
abbrev pub ExplainsStored : File → Option (List ℕ) → Status → List ℕ → Type 0
ExplainsStored f stored status text =
    ((r : Refusal) × RefusesUnread most_bytes 2 stored r × IsRefused r status text)
    ⊎ ((bytes : List ℕ) × (stored ≡ Some bytes) × (length bytes ≤ most_bytes) × Explaining f bytes status text)

-- the same of what stands under the file's name: it is refused, before the schedule is looked at, or it is a layer file without a fault
abbrev pub Explains : Option (List Held) → (schedule : List ℕ) → Option (List ℕ) → Status → List ℕ → Type 0
Explains files schedule stored status text =
    ((r : Refusal) × RefusesFile stored r × IsRefused r status text)
    ⊎ ((bytes : List ℕ) × (f : File) × (stored ≡ Some bytes) × IsLayerFile bytes f × DoesWith (ExplainsStored f) files schedule status text)

-- `explain` of a file's name and a schedule's name
abbrev pub ExplainsNamed : Option (List Held) → (file schedule : List ℕ) → Status → List ℕ → Type 0
ExplainsNamed files file schedule = DoesWith (Explains files schedule) files file
