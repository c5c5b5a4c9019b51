use Rattle.std.proofs.Common.{sym, subst}
use Rattle.ygg_base.specs.declared.geometry.DiskKind.{DiskKind}
use Rattle.ygg_base.specs.Devices.{Tells, AttachedTurns}
use Rattle.ygg_run_image.specs.Turning.{WritesBlock}
use Rattle.ygg_run_image.proofs.Keeping.{through}
use Rattle.ygg_run_image.proofs.rows.write_block.Goals as goal

pub returns-in-Done-Sync-clause-turns : goal.returns-in-Done-Sync-clause-turns
returns-in-Done-Sync-clause-turns g c =
    subst (λ (k : DiskKind). Tells (AttachedTurns (WritesBlock k c.args.place c.args.block.now c.flush.result) (g.D.Device.attached c.args.device.now))
    (g.D.Device.images c.args.device.now) (g.D.Device.images c.flush.new.self)) (sym c.in-Done-Sync.is-1)
    (through c.args.place c.args.block.now c.flush.result _ _ _ _ _ c.write.ensures.still c.in-Done-Sync.ensures.told c.flush.ensures.told)
