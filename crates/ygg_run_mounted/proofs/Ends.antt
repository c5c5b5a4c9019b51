-- How a run ends on an image that was mounted.
use Rattle.std.proofs.Common.{ℕ, List, [], Option, Some, Result, Ok, Err, inr, refl}
use Rattle.ygg_run_image.specs.ygg_base.Devices.{Image, Tells}
use Rattle.ygg_syntax.specs.declared.tree.File.{File}
use Rattle.ygg_run_commands.specs.ygg_type.Typed.{geometry_of}
use Rattle.ygg_run_commands.specs.ygg_meaning.Machine.{Machine}
use Rattle.ygg_run_commands.specs.ygg_eval.Lower.{Cause}
use Rattle.ygg_run_commands.specs.ygg_script.declared.command.Command.{Command}
use Rattle.ygg_run_commands.specs.Running.{IsRun}
use Rattle.ygg_run_commands.specs.declared.halting.RunHalted.{RunHalted}
use Rattle.ygg_run_commands.specs.declared.halting.RunHalted.TheVariants.{DeviceFailed, SinkFailed, Memory}
use Rattle.ygg_run_image.specs.Mounting.{Mounts, whole_image}
use Rattle.ygg_run_mounted.specs.Ran.{RanPart, RanSo}
use Rattle.ygg_run_mounted.specs.Ending.{HaltsBy, RunsTo, end_of}
use Rattle.ygg_run_mounted.proofs.Whole.{mounted_stays}

-- a run of which less is said of why a device or a sink failed
pub risen : {B X : Type 0} (M : Cause → Machine B X) (f : File) (script : List Command) (from to : B) (before now : Option (List ℕ))
    (DeviceRose SinkRose LaterDevice LaterSink : Type 0) → (DeviceRose → LaterDevice) → (SinkRose → LaterSink) → (why : RunHalted) →
    IsRun M f script from to before now DeviceRose SinkRose (Err why) → IsRun M f script from to before now LaterDevice LaterSink (Err why)
risen M f script from to before now DeviceRose SinkRose LaterDevice LaterSink device sink DeviceFailed (rose, rest) = (device rose, rest)
risen M f script from to before now DeviceRose SinkRose LaterDevice LaterSink device sink SinkFailed (rose, rest, es, x, front, is, adds) =
    (sink rose, rest, es, x, front, is, adds)
risen M f script from to before now DeviceRose SinkRose LaterDevice LaterSink device sink Memory h = h

module _ (f : File) (script : List Command) (name : List ℕ) (before middle now : Option (List Image)) (taken taken' : Option (List ℕ))
    (DeviceRose SinkRose LaterDevice : Type 0) (later : DeviceRose → LaterDevice) (mounts : Tells (Mounts (geometry_of f.disk) name (Ok tt)) before middle)
  where
    halts : (why : RunHalted) → RanPart f script middle now (Some (whole_image (geometry_of f.disk) name)) taken taken' DeviceRose SinkRose why →
        HaltsBy f script name before now taken taken' LaterDevice SinkRose why
    halts why p = (
      p.text,
      p.puts,
      record {
        images = middle;
        mounts = mounts;
        run = risen _ f script _ _ (Some []) (Some p.text) DeviceRose SinkRose LaterDevice SinkRose later (λ rose. rose) why p.run;
        stays = mounted_stays (geometry_of f.disk) name before middle now mounts p.stays.images;
      },
    )

    pub ends_so : (result : Result (Unit {0}) RunHalted) →
        RanSo f script middle now (Some (whole_image (geometry_of f.disk) name)) taken taken' DeviceRose SinkRose result →
        RunsTo f script name before now taken taken' LaterDevice SinkRose (end_of result)
    ends_so (Ok done) w = record { entries = w.entries; ran = w.ran; text = w.text; leaves = w.leaves name before refl mounts }
    ends_so (Err DeviceFailed) p = (later p.run.0, inr (halts DeviceFailed p))
    ends_so (Err SinkFailed) p = (p.run.0, halts SinkFailed p)
    ends_so (Err Memory) p = inr (halts Memory p)
