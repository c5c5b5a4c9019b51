use Rattle.std.proofs.Common.{sym, subst}
use Rattle.ygg_base.specs.declared.geometry.Geometry.{Geometry}
use Rattle.ygg_run_image.specs.ygg_base.Devices.{AttachedTurns, Tells}
use Rattle.ygg_run_image.specs.Sight.{Sight, Holds}
use Rattle.ygg_run_image.specs.Standing.{KeepsHeader, StaysOn}
use Rattle.ygg_run_image.specs.declared.device_ground.DeviceGround.{DeviceGround}
use Rattle.ygg_run_image.proofs.Staying.{stays_keeps}
use Rattle.ygg_run_image.proofs.FormatRows.{stays, rows, untold}
use Rattle.ygg_run_image.proofs.filling.format_ground.Given.{Over}
use Rattle.ygg_run_image.proofs.filling.format_ground.Goals as goal

-- what is seen of the ground
abbrev look : (g : Over) → DeviceGround g.row.D.Denot g.D.Device → Sight
look g s = record {
  reference = s.device.ghost_name;
  geometry = s.geometry;
  images = g.D.Device.images s.device.now;
  attached = g.D.Device.attached s.device.now;
  faults = g.D.Device.faults s.device.now;
}

holds : (g : Over) (c : goal.After-on_stack g) →
    Holds c.args.ground.geometry (g.D.Device.images c.args.ground.device.now) (g.D.Device.attached c.args.ground.device.now)
holds g c =
    subst (λ (h : Geometry). Holds h (g.D.Device.images c.args.ground.device.now) (g.D.Device.attached c.args.ground.device.now)) (sym c.requires.geometry)
    c.requires.holds

here : (g : Over) (c : goal.After-on_stack g) → StaysOn (look g c.args.ground) (look g c.on_stack.result)
here g c =
    stays (look g) c.args.typed.now.file c.args.ground c.on_stack.result (λ cause. stays_keeps (look g) c.args.ground (holds g c) cause)
    c.on_stack.new.errand.end c.on_stack.ensures

pub returns-clause-same_reference : goal.returns-clause-same_reference
returns-clause-same_reference g c = (here g c).reference

pub returns-clause-still : goal.returns-clause-still
returns-clause-still g c = (here g c).attached

pub returns-clause-told : goal.returns-clause-told
returns-clause-told g c =
    subst (λ (h : Geometry). Tells (AttachedTurns (KeepsHeader h) (g.D.Device.attached c.args.ground.device.now))
    (g.D.Device.images c.args.ground.device.now) (g.D.Device.images c.on_stack.result.device.now)) c.requires.geometry (here g c).images

pub returns-clause-rows : goal.returns-clause-rows
returns-clause-rows g c done =
    rows (look g) c.args.typed.now.file c.args.ground c.on_stack.result (λ cause. stays_keeps (look g) c.args.ground (holds g c) cause) c.requires.geometry
    c.requires.holds.limits c.on_stack.new.errand.end c.on_stack.ensures done c.requires.blank (here g c).geometry
    (untold (look g c.args.ground) (look g c.on_stack.result) (here g c))
