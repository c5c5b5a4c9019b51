-- How `play` ends.
use Rattle.std.specs.Prelude.{◌≡◌, ◌⊎◌, ℕ, ◌≤◌, List, length, Option, Some, None, Ok, Err}
use Rattle.ygg_base.specs.declared.failure.Refusal.{Refusal}
use Rattle.ygg_base.specs.declared.lists.Held.{Held}
use Rattle.ygg_base.specs.declared.status.Status.{Status}
use Rattle.ygg_base.specs.declared.status.Status.TheVariants.{Done}
use Rattle.ygg_syntax.specs.declared.tree.File.{File}
use Rattle.ygg_top_command.specs.ygg_report.Putting.{IsFront}
use Rattle.ygg_run.specs.ygg_script.declared.command.Command.{Command}
use Rattle.ygg_run.specs.ygg_script.Reading.{script_of}
use Rattle.ygg_run.specs.Playing.{RefusesPlay, PlaysTo}
use Rattle.ygg_top_command.specs.declared.stopping.CommandStop.{CommandStop}
use Rattle.ygg_top_command.specs.declared.stopping.CommandStop.TheVariants.{Refused, LibraryFailed, NoMemory}
use Rattle.ygg_top_command.specs.Refusing.{IsLayerFile, RefusesFile, RefusesUnread, most_bytes}
use Rattle.ygg_top_command.specs.Standing.{Stands, DoesWith, IsRefused}

-- the bytes are this script of a layer file
pub record IsScriptText (f : File) (bytes : List ℕ) (script : List Command) : Type 0 where
  pub small : length bytes ≤ most_bytes
  pub reads : script_of f bytes ≡ Ok script

-- a refusal of the lines of what stands under the script's name
abbrev pub RefusesLines : File → Option (List ℕ) → Refusal → Type 0
RefusesLines f None r = ⊥
RefusesLines f (Some bytes) r = (length bytes ≤ most_bytes) × (script_of f bytes ≡ Err r)

-- the refusal of what stands under the script's name, the second word after the command, unread or for its first line at fault
abbrev pub RefusesScript : File → Option (List ℕ) → Refusal → Type 0
RefusesScript f stored r = RefusesUnread most_bytes 2 stored r ⊎ RefusesLines f stored r

-- a text of this script stands under the name
abbrev pub StandsScript : File → Option (List Held) → List ℕ → List Command → Type 0
StandsScript f files name script = (bytes : List ℕ) × Stands files name (Some bytes) × IsScriptText f bytes script

-- why there is no script under the name: what stands there is refused, or the library failed
abbrev pub IsNoScript : File → Option (List Held) → List ℕ → (LibraryRose : Type 0) → CommandStop → Type 0
IsNoScript f files name LibraryRose (Refused r) = (stored : Option (List ℕ)) × Stands files name stored × RefusesScript f stored r
IsNoScript f files name LibraryRose LibraryFailed = LibraryRose
IsNoScript f files name LibraryRose NoMemory = Unit {0}

-- `play` of a script of a layer file: its text, or the refusal of the first stop that isn't reached
abbrev pub PlaysScript : File → List Command → Status → List ℕ → Type 0
PlaysScript f script status text = PlaysTo f script status text ⊎ ((r : Refusal) × RefusesPlay f script r × IsRefused r status text)

-- the same of what stands under the script's name: it is refused, or it is a script
abbrev pub PlaysStored : File → Option (List ℕ) → Status → List ℕ → Type 0
PlaysStored f stored status text =
    ((r : Refusal) × RefusesScript f stored r × IsRefused r status text)
    ⊎ ((bytes : List ℕ) × (script : List Command) × (stored ≡ Some bytes) × IsScriptText f bytes script × PlaysScript f script status text)

-- the same of what stands under the file's name: it is refused, before the script is looked at, or it is a layer file without a fault
abbrev pub Plays : Option (List Held) → (script : List ℕ) → Option (List ℕ) → Status → List ℕ → Type 0
Plays files script stored status text =
    ((r : Refusal) × RefusesFile stored r × IsRefused r status text)
    ⊎ ((bytes : List ℕ) × (f : File) × (stored ≡ Some bytes) × IsLayerFile bytes f × DoesWith (PlaysStored f) files script status text)

-- `play` of a file's name and a script's name
abbrev pub PlaysNamed : Option (List Held) → (file script : List ℕ) → Status → List ℕ → Type 0
PlaysNamed files file script = DoesWith (Plays files script) files file

-- a front of a text with which a command that does this is done
abbrev pub IsCutPlaying : (Status → List ℕ → Type 0) → List ℕ → Type 0
IsCutPlaying Does front = (text : List ℕ) × Does Done text × IsFront front text
