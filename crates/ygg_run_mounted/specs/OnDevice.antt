-- A disk that a device holds, as what is seen of the device alone.
use Rattle.std.specs.Prelude.{List, Option}
use Rattle.ygg_base.specs.declared.geometry.Geometry.{Geometry}
use Rattle.ygg_run_image.specs.ygg_base.Devices.{Image, Attachment}
use Rattle.ygg_run_commands.specs.ygg_disk.Ground.{Meaning}
use Rattle.ygg_run_image.specs.DeviceMeaning.{device_meaning}
use Rattle.ygg_run_image.specs.Sight.{Sight}

-- what is seen of a device that holds a disk of this size, whichever reference it is reached by, and however many faults there were
abbrev pub seen : Geometry → (images : Option (List Image)) → (attached : Option Attachment) → Sight
seen g images attached = record { reference = 0; geometry = g; images = images; attached = attached; faults = 0 }

-- the ground that this is
abbrev pub on_device : Meaning Sight
on_device = device_meaning (λ (s : Sight). s)
