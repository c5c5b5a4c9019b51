-- What layers on a disk that a device holds keep of the device.
use Rattle.ygg_run_image.specs.ygg_meaning.Stack.{Layers, Stacked}
use Rattle.ygg_run_image.specs.ygg_eval.Lower.{Cause}
use Rattle.ygg_run_image.specs.ygg_machine.GroundSteps.{ground_machine}
use Rattle.ygg_run_image.specs.Kept.{Keeps}
use Rattle.ygg_run_image.specs.DeviceMeaning.{device_meaning}
use Rattle.ygg_run_image.specs.Sight.{Sight, Holds}
use Rattle.ygg_run_image.specs.Standing.{StaysOn}

-- the ground as it is seen
abbrev pub as_seen : Sight → Sight
as_seen s = s

-- from where the ground holds a disk, each step of any layers on it, whole, cut or given up, leaves it on its device as it stood
abbrev pub LayersStay : Type 0
LayersStay =
    (start : Sight) (cause : Cause) (layers : Layers) → Holds start.geometry start.images start.attached →
    Keeps (StaysOn start) (Stacked (ground_machine (device_meaning as_seen) cause start) layers)
