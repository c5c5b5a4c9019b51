use Rattle.ygg_base.proofs.Places.{place_found, none_later}
use Rattle.ygg_base.proofs.image.place_of.Goals as goal

pub returns-then-eq : goal.returns-then-eq
returns-then-eq c =
    place_found c.args.stored.now c.args.name.now c.as_slice.result.now c.loop-place.place c.index-stored-place.result c.eq.result c.loop-place-test.true
    c.index-stored-place.is c.as_slice.ensures c.eq.ensures c.loop-place.invariant c.if-eq.true

pub loop-place-preserved : goal.loop-place-preserved
loop-place-preserved c =
    none_later c.args.stored.now c.args.name.now c.as_slice.result.now c.loop-place.place c.index-stored-place.result c.eq.result c.loop-place-test.true
    c.index-stored-place.is c.as_slice.ensures c.eq.ensures c.loop-place.invariant c.if-eq.false
