-- What the commands of a script do as an errand.
use Rattle.std.specs.Prelude.{◌≡◌, ℕ, ◌≤◌, List, Option, None, Result}
use Rattle.ygg_base.specs.Outside.{Rose}
use Rattle.ygg_syntax.specs.declared.tree.File.{File}
use Rattle.ygg_run_commands.specs.ygg_disk.Ground.{Meaning}
use Rattle.ygg_run_commands.specs.ygg_script.declared.command.Command.{Command}
use Rattle.ygg_run_commands.specs.ygg_script.Fitting.{IsScriptOf}
use Rattle.ygg_run_commands.specs.ygg_script.Plain.{plain_of}
use Rattle.ygg_run_commands.specs.OnGround.{layers_on}
use Rattle.ygg_run_commands.specs.Running.{IsRun}
use Rattle.ygg_run_commands.specs.declared.halting.RunHalted.{RunHalted}

-- a script of the file that a device can be run by
pub record SuitsFile (f : File) (script : List Command) : Type 0 where
  pub fits : IsScriptOf f script
  pub plain : plain_of script ≡ None

-- a run of a script on the layers of a file, which ended so, and what it made of the ground and of the sink, which is still the same
pub record RunsCommands {S : Type 0} (G : Meaning S) (f : File) (script : List Command) (from to : S) (sink sink' : ℕ) (before now : Option (List ℕ))
    (faults faults' : ℕ) (ended : Result (Unit {0}) RunHalted) : Type 0 where
  pub same : sink' ≡ sink
  pub run : IsRun (layers_on G f) f script from to before now (Rose (G.faults from) (G.faults to)) (Rose faults faults') ended
  pub later_ground : G.faults from ≤ G.faults to
  pub later : faults ≤ faults'
