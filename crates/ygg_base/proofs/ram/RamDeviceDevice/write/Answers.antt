use Rattle.std.proofs.Common.{Some, ap}
use Rattle.ygg_base.specs.Ram.{images_in}
use Rattle.ygg_base.proofs.Attached.{write_failed}
use Rattle.ygg_base.proofs.ram.RamDeviceDevice.write.Goals as goal

pub returns-then-write_fails_now-clause-told : goal.returns-then-write_fails_now-clause-told
returns-then-write_fails_now-clause-told c =
    let device = c.args.self.now in (
      images_in device.stored.items,
      ap (λ v. Some (images_in v.items)) c.write_fails_now.ensures.stored,
      write_failed c.args.block c.args.from.now device.stored.items device.attached device.seen,
    )
