use Rattle.std.proofs.Common.{Some, ap}
use Rattle.ygg_base.proofs.Losing.{all_lost, seen_still, attached_still}
use Rattle.ygg_base.proofs.ram.RamDevice.lose.Goals as goal

pub invariant_of-self : goal.invariant_of-self
invariant_of-self c =
    let device = c.args.self.now in
    record {
      even = c.restore_all.ensures.even;
      seen = seen_still device.stored.items c.restore_all.new.stored.items c.restore_all.ensures device.even device.attached device.seen;
    }

pub returns-clause-told : goal.returns-clause-told
returns-clause-told c =
    ap (λ images. Some images) (all_lost c.args.self.now.stored.items c.restore_all.new.stored.items c.restore_all.ensures c.args.self.now.even)

pub returns-clause-still : goal.returns-clause-still
returns-clause-still c =
    let device = c.args.self.now in
    attached_still device.stored.items c.restore_all.new.stored.items c.restore_all.ensures device.even device.attached device.seen
