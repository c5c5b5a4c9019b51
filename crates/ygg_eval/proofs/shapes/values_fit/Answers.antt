use Rattle.std.proofs.Common.{◌<◌, ◌≤◌, subst}
use Rattle.ygg_eval.specs.ygg_meaning.Shapes.{values_fit}
use Rattle.ygg_eval.proofs.Fitted.{uncounted, fits_on, fits_not, fits_all}
use Rattle.ygg_eval.proofs.shapes.values_fit.Goals as goal

pub returns-then-declared-values : goal.returns-then-declared-values
returns-then-declared-values c = uncounted c.args.declared.now c.args.values.now c.if-declared-values.true

pub bounds-values-i : goal.bounds-values-i
bounds-values-i c = subst (λ n. c.loop-i.i < n) c.if-declared-values.false c.loop-i-test.true

pub returns-then-not-fits : goal.returns-then-not-fits
returns-then-not-fits c =
    let ds = c.args.declared.now in
    let vs = c.args.values.now in
    fits_not ds vs c.loop-i.i (values_fit ds vs) c.loop-i.invariant c.index-declared-i.result c.index-values-i.result c.loop-i-test.true c.index-declared-i.is
    (subst (λ n. c.loop-i.i < n) c.if-declared-values.false c.loop-i-test.true) c.index-values-i.is c.if-not-fits.ensures

pub loop-i-preserved : goal.loop-i-preserved
loop-i-preserved c =
    let ds = c.args.declared.now in
    let vs = c.args.values.now in
    fits_on ds vs c.loop-i.i (values_fit ds vs) c.loop-i.invariant c.index-declared-i.result c.index-values-i.result c.loop-i-test.true c.index-declared-i.is
    (subst (λ n. c.loop-i.i < n) c.if-declared-values.false c.loop-i-test.true) c.index-values-i.is c.if-not-fits.ensures

pub returns : goal.returns
returns c =
    let ds = c.args.declared.now in
    let vs = c.args.values.now in
    fits_all ds vs c.loop-i.i (values_fit ds vs) c.loop-i.invariant c.loop-i-test.false
    (subst (λ n. n ≤ c.loop-i.i) c.if-declared-values.false c.loop-i-test.false)
