use Rattle.ygg_base.specs.declared.outside.Moved.TheVariants.{Done}
use Rattle.ygg_base.specs.Devices.{Writes}
use Rattle.ygg_base.proofs.Attached.{attached_turned}
use Rattle.ygg_base.proofs.image.write_attached.Goals as goal

pub returns-in-Some : goal.returns-in-Some
returns-in-Some c =
    attached_turned (Writes c.args.block c.args.from.now Done) c.args.attached c.in-Some.p c.args.stored.now.items c.write_at.new.stored.items c.in-Some.is
    c.requires.even c.requires.seen c.write_at.ensures
