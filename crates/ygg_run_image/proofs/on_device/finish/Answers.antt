use Rattle.std.proofs.Common.{subst}
use Rattle.ygg_base.specs.declared.geometry.Geometry.{Geometry}
use Rattle.ygg_base.specs.declared.outside.Moved.TheVariants as moved
use Rattle.ygg_run_image.specs.ygg_base.Devices.{AttachedTurns, Tells}
use Rattle.ygg_run_image.specs.Sealing.{SealTurns}
use Rattle.ygg_run_image.proofs.Finished.{finish_done, finish_failed}
use Rattle.ygg_run_image.proofs.on_device.finish.Goals as goal

pub returns-in-Done-clause-told : goal.returns-in-Done-clause-told
returns-in-Done-clause-told g c =
    finish_done c.args.typed.now.file _ _ c.requires.holds c.requires.filled _
    (subst (λ (h : Geometry). Tells (AttachedTurns (SealTurns h moved.Done) (g.D.Device.attached c.args.device.now)) (g.D.Device.images c.args.device.now)
    (g.D.Device.images c.seal.new.device)) c.geometry-geometry.ensures.same c.in-Done.ensures.told)

pub returns-in-Failed-clause-told : goal.returns-in-Failed-clause-told
returns-in-Failed-clause-told g c =
    finish_failed c.args.typed.now.file _ _ c.requires.holds c.requires.filled _
    (subst (λ (h : Geometry). Tells (AttachedTurns (SealTurns h moved.Failed) (g.D.Device.attached c.args.device.now)) (g.D.Device.images c.args.device.now)
    (g.D.Device.images c.seal.new.device)) c.geometry-geometry.ensures.same c.in-Failed.ensures.told)
