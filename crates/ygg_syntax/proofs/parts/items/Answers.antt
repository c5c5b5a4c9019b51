use Rattle.ygg_syntax.proofs.Paired.{next, differ, shorter, ends}
use Rattle.ygg_syntax.proofs.parts.items.Goals as goal

pub returns-in_default : goal.returns-in_default
returns-in_default g c =
    shorter g.T.Alike.without_places c.args.a.now c.loop-one.one-index c.loop-one.rest.now c.loop-one.invariant c.one-item.result
    c.loop-one-test.true c.one-item.is c.in_default.ensures.cases

pub returns-then-not-same : goal.returns-then-not-same
returns-then-not-same g c =
    differ g.T.Alike.without_places c.args.a.now c.loop-one.one-index c.loop-one.rest.now c.loop-one.invariant
    c.one-item.result c.in-Some.other.now c.in-Some.others.now c.same.result c.loop-one-test.true c.one-item.is
    c.in-Some.ensures.cases.0 c.if-not-same.true c.same.ensures

pub loop-one-preserved : goal.loop-one-preserved
loop-one-preserved g c =
    next g.T.Alike.without_places c.args.a.now c.loop-one.one-index c.loop-one.rest.now c.loop-one.invariant
    c.one-item.result c.in-Some.other.now c.in-Some.others.now c.loop-one-test.true c.one-item.is c.in-Some.ensures.cases.0
    (c.same.ensures.0 c.if-not-same.false)

pub returns : goal.returns
returns g c =
    ends g.T.Alike.without_places c.args.a.now c.loop-one.one-index c.loop-one.rest.now c.loop-one.invariant
    c.is_empty.result c.is_empty.ensures c.loop-one-test.false
