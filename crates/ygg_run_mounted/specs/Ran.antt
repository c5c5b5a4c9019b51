-- What a run of a script on the layers of a file over a device that holds their disk did.
use Rattle.std.specs.Prelude.{◌≡◌, ℕ, List, [], Option, Some, Result, Ok, Err}
use Rattle.ygg_run_image.specs.ygg_base.Devices.{Image, Attachment, ImageTurns, Tells}
use Rattle.ygg_syntax.specs.declared.tree.File.{File}
use Rattle.ygg_run_commands.specs.ygg_type.Typed.{geometry_of}
use Rattle.ygg_run_commands.specs.ygg_meaning.History.{Entry}
use Rattle.ygg_run_commands.specs.ygg_report.Putting.{Adds}
use Rattle.ygg_run_commands.specs.ygg_script.declared.command.Command.{Command}
use Rattle.ygg_run_image.specs.Standing.{StaysOn}
use Rattle.ygg_run_image.specs.Mounting.{Mounts, whole_image}
use Rattle.ygg_run_commands.specs.OnGround.{layers_on}
use Rattle.ygg_run_commands.specs.Ran.{AllRan, run_text}
use Rattle.ygg_run_commands.specs.Running.{IsRun}
use Rattle.ygg_run_commands.specs.declared.halting.RunHalted.{RunHalted}
use Rattle.ygg_run_mounted.specs.OnDevice.{on_device, seen}
use Rattle.ygg_run_mounted.specs.Extending.{HasRun}

module _ (f : File) (script : List Command) (before now : Option (List Image)) (attached : Option Attachment) (taken taken' : Option (List ℕ))
    (DeviceRose SinkRose : Type 0) where
  -- it was whole: an entry for each command, the text of all of them, and what it made of the image that was mounted
  pub record RanWhole : Type 0 where
    pub entries : List Entry
    pub ran : AllRan f script entries
    pub text : Adds taken (run_text script entries) taken'
    pub leaves : (name : List ℕ) (first : Option (List Image)) → attached ≡ Some (whole_image (geometry_of f.disk) name) →
        Tells (Mounts (geometry_of f.disk) name (Ok tt)) first before → Tells (ImageTurns (HasRun f entries) name) first now

  -- it was given up, after this text
  pub record RanPart (why : RunHalted) : Type 0 where
    pub text : List ℕ
    pub puts : Adds taken text taken'
    pub run : IsRun (layers_on on_device f) f script (seen (geometry_of f.disk) before attached) (seen (geometry_of f.disk) now attached) (Some []) (Some text)
        DeviceRose SinkRose (Err why)
    pub stays : StaysOn (seen (geometry_of f.disk) before attached) (seen (geometry_of f.disk) now attached)

  -- by how it ended
  abbrev pub RanSo : Result (Unit {0}) RunHalted → Type 0
  RanSo (Ok done) = RanWhole
  RanSo (Err why) = RanPart why
