use Rattle.ygg_run_image.proofs.Attached.{attached_whole, finds_attached}
use Rattle.ygg_run_image.proofs.mounting.attach.Goals as goal

pub returns-in-Attached-clause-attached : goal.returns-in-Attached-clause-attached
returns-in-Attached-clause-attached g c =
    attached_whole c.args.geometry c.args.name.now c.block_size.result c.in-Attached.bytes (g.D.Device.attached c.attach.new.self)
    (g.D.Device.attached c.judge.new.device) c.judge.result c.requires.limits c.block_size.ensures.bytes c.in-Attached.ensures.attaches
    c.judge.ensures.still c.judge.ensures.whole

pub returns-in-Attached-clause-finds : goal.returns-in-Attached-clause-finds
returns-in-Attached-clause-finds g c =
    finds_attached c.args.geometry c.args.name.now c.block_size.result c.in-Attached.bytes (g.D.Device.images c.args.device.now)
    (g.D.Device.images c.attach.new.self) (g.D.Device.attached c.attach.new.self) c.judge.result c.in-Attached.ensures.attaches
    c.in-Attached.ensures.kept c.in-Attached.ensures.told c.judge.ensures.judged
