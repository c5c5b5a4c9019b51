-- How a run on the image of a name ends, what it leaves, and what the sink has taken.
use Rattle.std.specs.Prelude.{◌≡◌, ◌⊎◌, ℕ, List, [], Option, Some, Result, Ok, Err}
use Rattle.ygg_run_image.specs.ygg_base.Devices.{Image, ImageTurns, Tells}
use Rattle.ygg_syntax.specs.declared.tree.File.{File}
use Rattle.ygg_run_commands.specs.ygg_type.Typed.{geometry_of}
use Rattle.ygg_run_commands.specs.ygg_meaning.History.{Entry}
use Rattle.ygg_run_commands.specs.ygg_report.Putting.{Adds}
use Rattle.ygg_run_commands.specs.ygg_script.declared.command.Command.{Command}
use Rattle.ygg_run_image.specs.Judged.{number_of}
use Rattle.ygg_run_image.specs.declared.reason.ImageReason.{ImageReason}
use Rattle.ygg_run_image.specs.Sight.{Sight}
use Rattle.ygg_run_image.specs.Mounting.{Mounts, whole_image}
use Rattle.ygg_run_image.specs.declared.unmounted.Unmounted.{Unmounted}
use Rattle.ygg_run_image.specs.declared.unmounted.Unmounted.TheVariants as unmounted
use Rattle.ygg_run_commands.specs.OnGround.{layers_on}
use Rattle.ygg_run_commands.specs.Ran.{AllRan, run_text}
use Rattle.ygg_run_commands.specs.Running.{IsRun}
use Rattle.ygg_run_commands.specs.declared.halting.RunHalted.{RunHalted}
use Rattle.ygg_run_commands.specs.declared.halting.RunHalted.TheVariants as halted
use Rattle.ygg_run_mounted.specs.OnDevice.{on_device, seen}
use Rattle.ygg_run_mounted.specs.Extending.{HasRun, KeepsImage}
use Rattle.ygg_run_mounted.specs.declared.run_end.RunEnd.{RunEnd}
use Rattle.ygg_run_mounted.specs.declared.run_end.RunEnd.TheVariants.{Done, Refused, Absent, DeviceFailed, SinkFailed, Memory}

-- how a run ends on an image that wasn't mounted
abbrev pub end_unmounted : Unmounted → RunEnd
end_unmounted (unmounted.Refused reason) = Refused (number_of reason)
end_unmounted unmounted.Absent = Absent
end_unmounted unmounted.DeviceFailed = DeviceFailed
end_unmounted unmounted.Memory = Memory

-- how a run ends on an image that was mounted
abbrev pub end_of : Result (Unit {0}) RunHalted → RunEnd
end_of (Ok done) = Done
end_of (Err halted.DeviceFailed) = DeviceFailed
end_of (Err halted.SinkFailed) = SinkFailed
end_of (Err halted.Memory) = Memory

module _ (f : File) (script : List Command) (name : List ℕ) (before now : Option (List Image)) where
  -- what is seen of the device that holds the disk in the image of that name
  abbrev pub mounted : Option (List Image) → Sight
  mounted images = seen (geometry_of f.disk) images (Some (whole_image (geometry_of f.disk) name))

  -- The image was mounted, and a run on it was given up after this text: the calls that it has made are first ones of those that the waking and the commands
  -- make.
  pub record IsGivenUp (DeviceRose SinkRose : Type 0) (why : RunHalted) (text : List ℕ) : Type 0 where
    pub images : Option (List Image)
    pub mounts : Tells (Mounts (geometry_of f.disk) name (Ok tt)) before images
    pub run : IsRun (layers_on on_device f) f script (mounted images) (mounted now) (Some []) (Some text) DeviceRose SinkRose (Err why)
    pub stays : Tells (ImageTurns (KeepsImage (geometry_of f.disk)) name) before now

  module _ (taken taken' : Option (List ℕ)) (DeviceRose SinkRose : Type 0) where
    -- the image wasn't mounted, and nothing was put
    abbrev pub IsNotMounted : Unmounted → Type 0
    IsNotMounted why = Tells (Mounts (geometry_of f.disk) name (Err why)) before now × (taken' ≡ taken)

    -- a run was given up, and the sink has taken its text
    abbrev pub HaltsBy : RunHalted → Type 0
    HaltsBy why = (text : List ℕ) × Adds taken text taken' × IsGivenUp DeviceRose SinkRose why text

    -- the run was whole: an entry for each command, and the text of all of them
    pub record IsWhole : Type 0 where
      pub entries : List Entry
      pub ran : AllRan f script entries
      pub text : Adds taken (run_text script entries) taken'
      pub leaves : Tells (ImageTurns (HasRun f entries) name) before now

    -- by its answer
    abbrev pub RunsTo : RunEnd → Type 0
    RunsTo Done = IsWhole
    RunsTo (Refused number) = (reason : ImageReason) × (number ≡ number_of reason) × IsNotMounted (unmounted.Refused reason)
    RunsTo Absent = IsNotMounted unmounted.Absent
    RunsTo DeviceFailed = DeviceRose × (IsNotMounted unmounted.DeviceFailed ⊎ HaltsBy halted.DeviceFailed)
    RunsTo SinkFailed = SinkRose × HaltsBy halted.SinkFailed
    RunsTo Memory = IsNotMounted unmounted.Memory ⊎ HaltsBy halted.Memory
