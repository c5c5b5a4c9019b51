use Rattle.ygg_base.proofs.Attached.{attached_read}
use Rattle.ygg_base.proofs.image.read_attached.Goals as goal

pub returns-in-Some : goal.returns-in-Some
returns-in-Some c =
    attached_read c.args.block c.args.stored.now c.args.attached c.in-Some.p c.read_at.new.into c.in-Some.is c.requires.seen c.read_at.ensures
