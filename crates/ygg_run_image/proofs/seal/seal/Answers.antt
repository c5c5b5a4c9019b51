use Rattle.std.proofs.Common.{subst}
use Rattle.ygg_base.specs.declared.outside.Moved.{Moved}
use Rattle.ygg_base.specs.declared.outside.Moved.TheVariants.{Done, Failed}
use Rattle.ygg_run_image.specs.ygg_base.Devices.{AttachedTurns, Flushes, Tells}
use Rattle.ygg_run_image.specs.Sealing.{IsFresh, HeaderTurns, SealTurns}
use Rattle.ygg_run_image.proofs.Turns.{turns, turns_twice}
use Rattle.ygg_run_image.proofs.Sealed.{flush_failed, then_header}
use Rattle.ygg_run_image.proofs.seal.seal.Goals as goal

pub returns-in-Done-clause-told : goal.returns-in-Done-clause-told
returns-in-Done-clause-told g c =
    turns_twice c.args.geometry (IsFresh c.args.geometry) (SealTurns c.args.geometry c.put_header.result) (Flushes Done)
    (HeaderTurns c.args.geometry c.put_header.result) _ _ _ _ _ c.requires.holds c.requires.fresh c.flush-kept.ensures.still
    (subst (λ (m : Moved). Tells (AttachedTurns (Flushes m) (g.D.Device.attached c.args.device.now)) (g.D.Device.images c.args.device.now)
    (g.D.Device.images c.flush-kept.new.self)) c.in-Done.is c.flush-kept.ensures.told) c.put_header.ensures.told
    (λ a i j k at f h. then_header c.args.geometry a i at c.put_header.result j k f h)

pub returns-in-Failed-clause-told : goal.returns-in-Failed-clause-told
returns-in-Failed-clause-told g c =
    turns c.args.geometry (IsFresh c.args.geometry) (SealTurns c.args.geometry Failed) (Flushes Failed) (Flushes Done) _ _ _ c.requires.holds c.requires.fresh
    (subst (λ (m : Moved). Tells (AttachedTurns (Flushes m) (g.D.Device.attached c.args.device.now)) (g.D.Device.images c.args.device.now)
    (g.D.Device.images c.flush-kept.new.self)) c.in-Failed.is c.flush-kept.ensures.told) (λ a i j at f. flush_failed c.args.geometry a i at j f)
