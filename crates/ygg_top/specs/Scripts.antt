-- Scripts that a run takes.
use Rattle.std.specs.Prelude.{◌≡◌, ◌⊎◌, ℕ, List, Option, None, Some}
use Rattle.ygg_base.specs.declared.failure.Refusal.{Refusal}
use Rattle.ygg_base.specs.declared.lists.Held.{Held}
use Rattle.ygg_base.specs.declared.status.Status.{Status}
use Rattle.ygg_run_mounted.specs.ygg_base.Devices.{Image}
use Rattle.ygg_syntax.specs.declared.tree.File.{File}
use Rattle.ygg_top.specs.ygg_meaning.History.{Entry}
use Rattle.ygg_run_mounted.specs.ygg_script.declared.command.Command.{Command}
use Rattle.ygg_run_mounted.specs.ygg_script.Plain.{plain_of}
use Rattle.ygg_top_command.specs.declared.stopping.CommandStop.{CommandStop}
use Rattle.ygg_top_command.specs.declared.stopping.CommandStop.TheVariants.{Refused, LibraryFailed, NoMemory}
use Rattle.ygg_top_command.specs.Refusing.{RefusesUnread, most_bytes}
use Rattle.ygg_top_command.specs.Standing.{Stands, IsRefused}
use Rattle.ygg_top.specs.Playing.{IsScriptText, RefusesLines, StandsScript}
use Rattle.ygg_top.specs.Images.{BrokenBy, LeftBy, RunsImage}

-- a refusal of the first line of a script that a run on a device doesn't take
abbrev pub RefusesCommands : File → Option (List ℕ) → Refusal → Type 0
RefusesCommands f None r = ⊥
RefusesCommands f (Some bytes) r = (script : List Command) × IsScriptText f bytes script × (plain_of script ≡ Some r)

-- the refusal of what stands under the script's name, the fourth word after the command's: unread, for its first line at fault, or else for the first that a
-- run doesn't take
abbrev pub RefusesScript : File → Option (List ℕ) → Refusal → Type 0
RefusesScript f stored r = RefusesUnread most_bytes 4 stored r ⊎ RefusesLines f stored r ⊎ RefusesCommands f stored r

-- this script stands under the name, and a run takes it
abbrev pub StandsPlain : File → Option (List Held) → List ℕ → List Command → Type 0
StandsPlain f files name script = StandsScript f files name script × (plain_of script ≡ None)

-- why there is no such script under the name: what stands there is refused, or the library failed
abbrev pub IsNoScript : File → Option (List Held) → List ℕ → (LibraryRose : Type 0) → CommandStop → Type 0
IsNoScript f files name LibraryRose (Refused r) = (stored : Option (List ℕ)) × Stands files name stored × RefusesScript f stored r
IsNoScript f files name LibraryRose LibraryFailed = LibraryRose
IsNoScript f files name LibraryRose NoMemory = Unit {0}

module _ (f : File) (files : Option (List Held)) (image script : List ℕ) (before now : Option (List Image)) where
  -- this holds of the script that stands under the name
  abbrev pub WithScript : (List Command → Type 0) → Type 0
  WithScript Holds = (commands : List Command) × StandsPlain f files script commands × Holds commands

  -- the script is refused, before the image is looked at, or it is run
  abbrev pub RunsScript : (Turns : List Entry → (before now : Image) → Type 0) → Status → List ℕ → Type 0
  RunsScript Turns status text =
      ((stored : Option (List ℕ)) × Stands files script stored × (r : Refusal) × RefusesScript f stored r × IsRefused r status text × (now ≡ before))
      ⊎ WithScript (λ commands. RunsImage f image before now commands Turns status text)

  -- a run of it that was given up
  abbrev pub ScriptLeft : List ℕ → Type 0
  ScriptLeft front = WithScript (λ commands. LeftBy f image before now commands front)

  -- a run of it during which the device failed
  abbrev pub ScriptBroken : List ℕ → Type 0
  ScriptBroken lines = WithScript (λ commands. BrokenBy f image before now commands lines)
