use Rattle.std.proofs.Common.{ℕ, refl, ap, subst}
use Rattle.ygg_base.specs.Devices.{Image}
use Rattle.std.specs.Prelude.{◌≡◌, IfSome}
use Rattle.ygg_value.specs.Number.{Number}
use Rattle.ygg_value.specs.Values.{table_read}
use Rattle.ygg_disk.specs.Disk.{Read}
use Rattle.ygg_run_image.specs.Image.{rows_in}
use Rattle.ygg_run_image.specs.Sight.{held}
use Rattle.ygg_run_image.proofs.Held.{holds_here}
use Rattle.ygg_run_image.proofs.Telling.{read_failed, read_whole, starved_call, starved_turns}
use Rattle.ygg_run_image.proofs.device_ground.DeviceGroundGround.read.Goals as goal

pub returns-in_err-row-clause-turn : goal.returns-in_err-row-clause-turn
returns-in_err-row-clause-turn g c =
    starved_turns (λ s. record {
      reference = s.device.ghost_name;
      geometry = s.geometry;
      images = g.D.Device.images s.device.now;
      attached = g.D.Device.attached s.device.now;
      faults = g.D.Device.faults s.device.now;
    }) c.args.self.now c.args.self.now (Read c.args.at.bits) c.args.power.now c.args.power.now c.from_residual.result
    c.from_residual.ensures.0
    (starved_call _ c.args.self.now c.args.self.now (Read c.args.at.bits) c.args.power.now c.args.power.now (holds_here _ _ _ c.args.self.now.holds) tt refl
    refl)

pub returns-in_err-begin-clause-turn : goal.returns-in_err-begin-clause-turn
returns-in_err-begin-clause-turn g c =
    starved_turns (λ s. record {
      reference = s.device.ghost_name;
      geometry = s.geometry;
      images = g.D.Device.images s.device.now;
      attached = g.D.Device.attached s.device.now;
      faults = g.D.Device.faults s.device.now;
    }) c.args.self.now c.args.self.now (Read c.args.at.bits) c.args.power.now c.begin.new.power c.from_residual-in_err-begin.result
    c.from_residual-in_err-begin.ensures.0
    (starved_call _ c.args.self.now c.args.self.now (Read c.args.at.bits) c.args.power.now c.begin.new.power (holds_here _ _ _ c.args.self.now.holds) tt refl
    c.in_err-begin.ensures.err)

pub returns-in-Done-clause-turn : goal.returns-in-Done-clause-turn
returns-in-Done-clause-turn g c =
    let here = ap (λ (n : Number). n.bits) c.at.view_is in
    let told = subst (λ (n : ℕ). IfSome (held (g.D.Device.images c.args.self.now.device.now) (g.D.Device.attached c.args.self.now.device.now))
    (λ (image : Image). c.read_row.new.row ≡ table_read (rows_in c.args.self.now.geometry image.view) n)) here (c.in-Done.ensures.told refl) in
    read_whole _ c.args.self.now _ c.args.at.bits c.args.power.now c.begin.new.power c.read_row.new.row (holds_here _ _ _ c.args.self.now.holds) refl refl
    c.read_row.ensures.still c.read_row.ensures.kept told c.in_ok-begin.ensures.ok

pub returns-in-Failed-clause-turn : goal.returns-in-Failed-clause-turn
returns-in-Failed-clause-turn g c =
    read_failed _ c.args.self.now _ c.args.at.bits c.args.power.now _ c.begin.new.power (holds_here _ _ _ c.args.self.now.holds) refl refl
    c.read_row.ensures.still c.read_row.ensures.kept (c.in-Failed.ensures.cause refl) c.in_ok-begin.ensures.ok refl
