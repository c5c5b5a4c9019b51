use Rattle.std.proofs.Common.{length, ap}
use Rattle.ygg_base.proofs.Attached.{replaced, appended}
use Rattle.ygg_base.proofs.image.add.Goals as goal

pub returns-in-Some-clause-ok : goal.returns-in-Some-clause-ok
returns-in-Some-clause-ok c =
    replaced c.args.stored.now.items c.as_slice.result.now c.args.image c.as_slice-2.result.now c.as_slice.ensures.value c.as_slice-2.ensures c.requires.even
    c.requires.image c.in-Some.place c.in-Some.ensures

pub returns-in_ok-push-in-None-clause-ok : goal.returns-in_ok-push-in-None-clause-ok
returns-in_ok-push-in-None-clause-ok c =
    appended c.args.stored.now.items c.as_slice.result.now c.args.image c.as_slice-2.result.now c.as_slice.ensures.value c.as_slice-2.ensures c.requires.even
    c.requires.image (length c.as_slice-place.result.now) c.push.new.self.items c.in-None.ensures c.in_ok-push-in-None.ensures.items
    (ap length c.as_slice-place.ensures.value)
