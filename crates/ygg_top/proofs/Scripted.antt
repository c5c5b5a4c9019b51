-- From a script that is fetched, or isn't, to what is told of the command.
use Rattle.std.proofs.Common.{◌≡◌, ℕ, List, Option, inl, inr, refl}
use Rattle.ygg_base.specs.declared.lists.Held.{Held}
use Rattle.ygg_base.specs.declared.status.Status.{Status}
use Rattle.ygg_run_mounted.specs.ygg_base.Devices.{Image}
use Rattle.ygg_syntax.specs.declared.tree.File.{File}
use Rattle.ygg_top.specs.ygg_meaning.History.{Entry}
use Rattle.ygg_run_mounted.specs.ygg_script.declared.command.Command.{Command}
use Rattle.ygg_top_command.specs.declared.stopping.CommandStop.{CommandStop}
use Rattle.ygg_top_command.specs.declared.stopping.CommandStop.TheVariants.{Refused, LibraryFailed, NoMemory}
use Rattle.ygg_top_command.specs.Reports.{MayStop}
use Rattle.ygg_top_command.specs.Breaking.{ToldOn}
use Rattle.ygg_top_command.proofs.Breaks.{told_on_to}
use Rattle.ygg_top.specs.Images.{BrokenBy, LeftBy, RunsImage}
use Rattle.ygg_top.specs.Scripts.{IsNoScript, RunsScript, ScriptBroken, ScriptLeft, StandsPlain}
use Rattle.ygg_top.proofs.Ending.{more_on}

module _ (f : File) (files : Option (List Held)) (image script : List ℕ) (Turns : List Entry → (before now : Image) → Type 0) where
  -- a command that stops where there is no script
  pub script_stops : (before : Option (List Image)) (LibraryRose : Type 0) (stop : CommandStop) → IsNoScript f files script LibraryRose stop →
      MayStop (RunsScript f files image script before before Turns) LibraryRose stop
  script_stops before LibraryRose (Refused r) (stored, stands, refuses) = inl (stored, stands, r, refuses, (refl, refl), refl)
  script_stops before LibraryRose LibraryFailed rose = rose
  script_stops before LibraryRose NoMemory u = tt

  -- a script that is run
  pub script_runs : (before now : Option (List Image)) (commands : List Command) → StandsPlain f files script commands → (taken last : Option (List ℕ))
      (LibraryRose DeviceRose SinkRose : Type 0) (result : Status) →
      ToldOn (RunsImage f image before now commands Turns) (LeftBy f image before now commands) (BrokenBy f image before now commands) taken last ⊥ DeviceRose
      SinkRose result → ToldOn (RunsScript f files image script before now Turns) (ScriptLeft f files image script before now)
      (ScriptBroken f files image script before now) taken last LibraryRose DeviceRose SinkRose result
  script_runs before now commands stands taken last LibraryRose DeviceRose SinkRose result told =
      more_on (RunsScript f files image script before now Turns) (ScriptLeft f files image script before now) (ScriptBroken f files image script before now)
      taken
      last ⊥ LibraryRose DeviceRose SinkRose result (λ none. absurd none)
      (told_on_to taken last ⊥ DeviceRose SinkRose result (RunsImage f image before now commands Turns) (RunsScript f files image script before now Turns)
      (LeftBy f image before now commands) (ScriptLeft f files image script before now) (BrokenBy f image before now commands)
      (ScriptBroken f files image script before now) (λ ended text does. inr (commands, stands, does)) (λ front left. (commands, stands, left))
      (λ lines whole. (commands, stands, whole)) told)
