use Rattle.std.proofs.Common.{refl, sym, subst}
use Rattle.ygg_base.specs.declared.geometry.DiskKind.{DiskKind}
use Rattle.ygg_base.specs.declared.outside.Moved.TheVariants.{Done}
use Rattle.ygg_base.specs.Devices.{Tells, AttachedTurns}
use Rattle.ygg_run_image.specs.Turning.{FlushesDisk}
use Rattle.ygg_run_image.proofs.Held.{attached_here, holds_here}
use Rattle.ygg_run_image.proofs.Keeping.{flush_holds, stays_so}
use Rattle.ygg_run_image.proofs.rows.flush_rows.Goals as goal

pub flush-requires : goal.flush-requires
flush-requires g c = attached_here _ _ _ c.requires.held

pub returns-in-Sync-clause-turns : goal.returns-in-Sync-clause-turns
returns-in-Sync-clause-turns g c =
    stays_so c.args.geometry (FlushesDisk c.args.geometry.kind Done) _ _ (holds_here _ _ _ c.requires.held)
    (λ a i. subst (λ (k : DiskKind). FlushesDisk k Done a i i) (sym c.in-Sync.is) refl)

pub returns-in-Async-clause-held : goal.returns-in-Async-clause-held
returns-in-Async-clause-held g c =
    let told = subst (λ (k : DiskKind). Tells (AttachedTurns (FlushesDisk k c.flush.result) (g.D.Device.attached c.args.device.now))
    (g.D.Device.images c.args.device.now) (g.D.Device.images c.flush.new.self)) (sym c.in-Async.is) c.flush.ensures.told in
    ∣ flush_holds c.args.geometry c.flush.result _ _ _ _ (holds_here _ _ _ c.requires.held) c.flush.ensures.still told ∣₁
