-- What is told of how a command ends that uses a device, which may fail.
use Rattle.std.specs.Prelude.{◌≡◌, ◌⊎◌, ℕ, List, ◌++◌, codes, Option}
use Rattle.ygg_base.specs.declared.status.Status.{Status}
use Rattle.ygg_base.specs.declared.status.Status.TheVariants.{Fault}
use Rattle.ygg_top_command.specs.ygg_report.Lines.{ended}
use Rattle.ygg_top_command.specs.ygg_report.Putting.{IsPutSo}
use Rattle.ygg_top_command.specs.Reports.{Told}

-- the line of a device that failed
abbrev pub device_fault : List ℕ
device_fault = ended (codes "fault device")

-- The device failed when these lines of a command were whole: its count of faults has risen, and the lines and `fault device` were put, or a front of them
-- where the sink failed too.
pub record IsBroken (Whole : List ℕ → Type 0) (before now : Option (List ℕ)) (DeviceRose SinkRose : Type 0) (ended : Status) : Type 0 where
  pub rose : DeviceRose
  pub lines : List ℕ
  pub whole : Whole lines
  pub puts : IsPutSo before now (lines ++ device_fault) Fault SinkRose ended

-- The end of a command on a device: as that of any other command (`Told`), or the device failed.
pub record ToldOn (Does : Status → List ℕ → Type 0) (Left Whole : List ℕ → Type 0) (before now : Option (List ℕ)) (LibraryRose DeviceRose SinkRose : Type 0)
    (ended : Status) : Type 0 where
  pub told : Told Does Left before now LibraryRose SinkRose ended ⊎ IsBroken Whole before now DeviceRose SinkRose ended
