use Rattle.std.proofs.Common.{◌≡◌, true, false, sym, ap, ◌∙◌, arith}
use Rattle.std.specs.Str.{bytes_eq}
use Rattle.ygg_syntax.proofs.Searched.{found, other, none_found}
use Rattle.ygg_syntax.proofs.weights.first_of.Goals as goal

pub returns-then-eq-clause-some : goal.returns-then-eq-clause-some
returns-then-eq-clause-some c =
    let here : bytes_eq c.index-defs-place.result.name.text c.args.name.now ≡ true =
    sym (ap (λ x. bytes_eq x c.args.name.now) c.as_slice.ensures) ∙ sym c.eq.ensures ∙ c.if-eq.true in
    found c.args.defs.now c.args.name.now c.loop-place.place c.index-defs-place.result c.loop-place-test.true c.index-defs-place.is here c.loop-place.invariant

pub loop-place-preserved : goal.loop-place-preserved
loop-place-preserved c =
    let differs : bytes_eq c.index-defs-place.result.name.text c.args.name.now ≡ false =
    sym (ap (λ x. bytes_eq x c.args.name.now) c.as_slice.ensures) ∙ sym c.eq.ensures ∙ c.if-eq.false in
    other c.args.defs.now c.args.name.now c.loop-place.place c.index-defs-place.result c.loop-place-test.true c.index-defs-place.is differs
    c.loop-place.invariant

pub returns-clause-none : goal.returns-clause-none
returns-clause-none c = none_found c.args.defs.now c.args.name.now c.loop-place.place (omega arith) c.loop-place.invariant
