use Rattle.std.proofs.Common.{None, refl}
use Rattle.ygg_disk.specs.Disk.{Flush}
use Rattle.ygg_run_image.proofs.Held.{holds_here}
use Rattle.ygg_run_image.proofs.Telling.{replies_nothing, starved_call, starved_turns, whole_call}
use Rattle.ygg_run_image.proofs.device_ground.DeviceGroundGround.flush.Goals as goal

pub returns-in_err-begin-clause-turn : goal.returns-in_err-begin-clause-turn
returns-in_err-begin-clause-turn g c =
    starved_turns (λ s. record {
      reference = s.device.ghost_name;
      geometry = s.geometry;
      images = g.D.Device.images s.device.now;
      attached = g.D.Device.attached s.device.now;
      faults = g.D.Device.faults s.device.now;
    }) c.args.self.now c.args.self.now Flush c.args.power.now c.begin.new.power c.from_residual.result c.from_residual.ensures.0
    (starved_call _ c.args.self.now c.args.self.now Flush c.args.power.now c.begin.new.power (holds_here _ _ _ c.args.self.now.holds) tt refl
    c.in_err-begin.ensures.err)

pub returns-in-Done-clause-turn : goal.returns-in-Done-clause-turn
returns-in-Done-clause-turn g c =
    whole_call _ c.args.self.now _ Flush c.args.power.now c.begin.new.power None (holds_here _ _ _ c.args.self.now.holds)
    (record { reference = refl; geometry = refl; attached = c.flush_rows.ensures.still; images = c.in-Done.ensures.turns })
    (replies_nothing _) c.in_ok-begin.ensures.ok
