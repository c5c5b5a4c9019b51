use Rattle.std.proofs.Common.{Some, ap}
use Rattle.ygg_base.specs.Ram.{images_in}
use Rattle.ygg_base.proofs.Attached.{flush_failed}
use Rattle.ygg_base.proofs.ram.RamDeviceDevice.flush.Goals as goal

pub returns-then-fails_now-clause-told : goal.returns-then-fails_now-clause-told
returns-then-fails_now-clause-told c =
    let device = c.args.self.now in
    (images_in device.stored.items, ap (λ v. Some (images_in v.items)) c.fails_now.ensures.stored, flush_failed device.stored.items device.attached device.seen)
