use Rattle.std.proofs.Common.{◌≡◌, true, false, sym, ap, ◌∙◌, arith}
use Rattle.std.proofs.lemmas.List.{take_all}
use Rattle.std.specs.Str.{bytes_eq}
use Rattle.ygg_eval_expr.proofs.Called.{is_definition}
use Rattle.ygg_sym_runs.specs.Seen.{terms_called}
use Rattle.ygg_sym_runs.proofs.ExpressionPlaced.{terms_begun, terms_more}
use Rattle.ygg_sym_runs.proofs.evaluator.definition.Goals as goal

pub loop-place-init : goal.loop-place-init
loop-place-init c = terms_begun c.args.defs.now c.args.name.now

pub returns-then-eq-clause-some : goal.returns-then-eq-clause-some
returns-then-eq-clause-some c =
    let here : bytes_eq c.index-defs-place.result.name.text c.args.name.now ≡ true =
    sym (ap (λ x. bytes_eq x c.args.name.now) c.as_slice.ensures) ∙ sym c.eq.ensures ∙ c.if-eq.true in
    is_definition c.args.defs.now c.args.name.now c.loop-place.place c.index-defs-place.result c.loop-place-test.true c.index-defs-place.is here
    c.loop-place.invariant.before

pub loop-place-preserved : goal.loop-place-preserved
loop-place-preserved c =
    let differs : bytes_eq c.index-defs-place.result.name.text c.args.name.now ≡ false =
    sym (ap (λ x. bytes_eq x c.args.name.now) c.as_slice.ensures) ∙ sym c.eq.ensures ∙ c.if-eq.false in
    terms_more c.args.defs.now c.args.name.now c.loop-place.place c.index-defs-place.result c.loop-place-test.true c.index-defs-place.is differs
    c.loop-place.invariant

pub returns-clause-none : goal.returns-clause-none
returns-clause-none c = λ kinds args nodes.
    ap (λ ds. terms_called kinds ds c.args.name.now args nodes) (sym (take_all c.loop-place.place c.args.defs.now (omega arith)))
    ∙ c.loop-place.invariant.gives kinds args nodes
