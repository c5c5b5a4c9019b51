-- What is fetched by a name, and why a command stops where nothing is.
use Rattle.std.specs.Prelude.{◌≡◌, ℕ, List, Option, Some}
use Rattle.ygg_base.specs.declared.failure.Refuse.{Refuse}
use Rattle.ygg_base.specs.declared.failure.Refuse.TheVariants as refuse
use Rattle.ygg_base.specs.declared.lists.Held.{Held}
use Rattle.ygg_base.specs.declared.reason.Reason.TheVariants as reason
use Rattle.ygg_base.specs.Reason.{refusal_at}
use Rattle.ygg_syntax.specs.declared.tree.File.{File}
use Rattle.ygg_top_command.specs.declared.stopping.CommandStop.{CommandStop}
use Rattle.ygg_top_command.specs.declared.stopping.CommandStop.TheVariants.{Refused, LibraryFailed, NoMemory}
use Rattle.ygg_top_command.specs.Refusing.{IsLayerFile, RefusesUnread, RefusesFile}
use Rattle.ygg_top_command.specs.Standing.{Stands}
use Rattle.ygg_top_command.specs.Words.{IsNoBudget}

-- why a command stops where a text isn't read
abbrev pub stop_of : Refuse → CommandStop
stop_of (refuse.At at) = Refused at
stop_of refuse.Memory = NoMemory

-- Why no text of at most so many bytes is fetched under the name that is the word at this place: what stands there is refused before its bytes are looked at,
-- or the library failed.
abbrev pub IsUnread : (most place : ℕ) → Option (List Held) → List ℕ → (LibraryRose : Type 0) → CommandStop → Type 0
IsUnread most place files name LibraryRose (Refused r) = (stored : Option (List ℕ)) × Stands files name stored × RefusesUnread most place stored r
IsUnread most place files name LibraryRose LibraryFailed = LibraryRose
IsUnread most place files name LibraryRose NoMemory = Unit {0}

-- a text of this layer file stands under the name
abbrev pub StandsFile : Option (List Held) → List ℕ → File → Type 0
StandsFile files name f = (bytes : List ℕ) × Stands files name (Some bytes) × IsLayerFile bytes f

-- why there is no layer file under the name that is the first word after the command's: what stands there is refused, or the library failed
abbrev pub IsNoFile : Option (List Held) → List ℕ → (LibraryRose : Type 0) → CommandStop → Type 0
IsNoFile files name LibraryRose (Refused r) = (stored : Option (List ℕ)) × Stands files name stored × RefusesFile stored r
IsNoFile files name LibraryRose LibraryFailed = LibraryRose
IsNoFile files name LibraryRose NoMemory = Unit {0}

-- why there is no budget where a word, the second after the command's, is to be one
abbrev pub IsBudgetless : List ℕ → CommandStop → Type 0
IsBudgetless word (Refused r) = IsNoBudget word × (r ≡ refusal_at reason.Number 0 2)
IsBudgetless word LibraryFailed = ⊥
IsBudgetless word NoMemory = Unit {0}
