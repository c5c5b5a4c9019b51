use Rattle.std.proofs.Common.{None, ℕ, refl, ap, subst}
use Rattle.ygg_base.specs.declared.outside.Moved.TheVariants.{Done}
use Rattle.ygg_base.specs.Devices.{Tells, AttachedTurns}
use Rattle.ygg_value.specs.Number.{Number}
use Rattle.ygg_disk.specs.Disk.{Write}
use Rattle.ygg_run_image.specs.Turning.{WritesRow}
use Rattle.ygg_run_image.proofs.Held.{holds_here}
use Rattle.ygg_run_image.proofs.Telling.{replies_nothing, starved_call, whole_call}
use Rattle.ygg_run_image.proofs.device_ground.DeviceGroundGround.write.Goals as goal

pub returns-in-Done-clause-turn : goal.returns-in-Done-clause-turn
returns-in-Done-clause-turn g c =
    let here = ap (λ (n : Number). n.bits) c.at.view_is in
    let turns = subst (λ (n : ℕ). Tells (AttachedTurns (WritesRow c.args.self.now.geometry n c.args.row.now Done)
    (g.D.Device.attached c.args.self.now.device.now)) (g.D.Device.images c.args.self.now.device.now) (g.D.Device.images c.write_row.new.device)) here
    c.in-Done.ensures.turns in
    whole_call _ c.args.self.now _ (Write c.args.at.bits c.args.row.now) c.args.power.now c.begin_write.new.power None
    (holds_here _ _ _ c.args.self.now.holds)
    (record { reference = refl; geometry = refl; attached = c.write_row.ensures.still; images = turns })
    (replies_nothing _) c.in_default.ensures.ok

pub returns-in-Err-clause-turn : goal.returns-in-Err-clause-turn
returns-in-Err-clause-turn g c =
    starved_call (λ s. record {
      reference = s.device.ghost_name;
      geometry = s.geometry;
      images = g.D.Device.images s.device.now;
      attached = g.D.Device.attached s.device.now;
      faults = g.D.Device.faults s.device.now;
    }) c.args.self.now c.args.self.now (Write c.args.at.bits c.args.row.now) c.args.power.now c.begin_write.new.power
    (holds_here _ _ _ c.args.self.now.holds) c.known_row.ensures refl c.in-Err.ensures.err
