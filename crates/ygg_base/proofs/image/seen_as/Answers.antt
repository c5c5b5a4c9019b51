use Rattle.std.proofs.Common.{length, ap}
use Rattle.ygg_base.proofs.Attached.{seen_found}
use Rattle.ygg_base.proofs.Places.{none_of}
use Rattle.ygg_base.proofs.image.seen_as.Goals as goal

pub returns-in_default-clause-none : goal.returns-in_default-clause-none
returns-in_default-clause-none c e = none_of c.args.stored.now c.args.name.now c.in_default.ensures

pub returns-clause-found : goal.returns-clause-found
returns-clause-found c =
    seen_found c.args.stored.now c.args.name.now c.args.size c.in-Some.place c.blocks_in-count.result (length c.as_slice.result.now)
    c.index-stored-place.result c.in-Some.ensures c.requires.even (ap length c.as_slice.ensures.value) c.blocks_in-count.ensures.count
    c.blocks_in-count.ensures.fits
