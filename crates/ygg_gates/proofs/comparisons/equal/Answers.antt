use Rattle.std.proofs.Common.{◌<◌, ◌∙◌, ap, arith, false, get_or, length}
use Rattle.std.proofs.lemmas.List.{get_or_default}
use Rattle.std.proofs.lemmas.Result.{IfOk-from_err}
use Rattle.ygg_cnf.specs.declared.lit.Lit.{Lit}
use Rattle.ygg_gates.specs.Circuits.{placed}
use Rattle.ygg_gates.specs.declared.gate.Gate.TheVariants.{And}
use Rattle.ygg_gates.proofs.Steps.{equal_begins, equal_goes, equal_value, equal_gates}
use Rattle.ygg_gates.proofs.comparisons.equal.Goals as goal

pub loop-at-init : goal.loop-at-init
loop-at-init c = equal_begins c.args.first c.args.xs.now c.args.ys.now c.args.gates.now.items

pub returns-in_err-differs-clause-gates : goal.returns-in_err-differs-clause-gates
returns-in_err-differs-clause-gates c = IfOk-from_err c.from_residual.result _ c.from_residual.ensures.0

pub returns-in_err-differs-clause-value : goal.returns-in_err-differs-clause-value
returns-in_err-differs-clause-value c = IfOk-from_err c.from_residual.result _ c.from_residual.ensures.0

pub returns-in_err-so_far-clause-gates : goal.returns-in_err-so_far-clause-gates
returns-in_err-so_far-clause-gates c = IfOk-from_err c.from_residual-in_err-so_far.result _ c.from_residual-in_err-so_far.ensures.0

pub returns-in_err-so_far-clause-value : goal.returns-in_err-so_far-clause-value
returns-in_err-so_far-clause-value c = IfOk-from_err c.from_residual-in_err-so_far.result _ c.from_residual-in_err-so_far.ensures.0

pub loop-at-preserved : goal.loop-at-preserved
loop-at-preserved c =
    let xs = c.args.xs.now in
    let ys = c.args.ys.now in
    let i = c.loop-at.at in
    let blank : Lit = record { var = 0; negated = false } in
    let x = get_or xs i blank in
    let y = get_or ys i blank in
    let in_xs : i < length xs = omega arith in
    let in_ys : i < length ys = omega arith in
    let then = c.place.new.gates.items in
    let so_far = c.loop-at.so_far in
    let turned = c.complement.ensures in
    equal_goes c.args.first xs ys c.args.gates.now.items i so_far c.loop-at.gates.items x y c.in_ok-differs.differs c.in_ok-so_far.so_far then
    c.place-in-loop-at.new.gates.items in_xs in_ys (get_or_default xs i blank x in_xs) (get_or_default ys i blank y in_ys)
    c.in_ok-differs.ensures.gates c.in_ok-differs.ensures.value
    (c.in_ok-so_far.ensures.gates ∙ ap (λ (z : Lit). (placed (And so_far z) then).gates) turned)
    (c.in_ok-so_far.ensures.value ∙ ap (λ (z : Lit). (placed (And so_far z) then).value) turned)
    c.loop-at.invariant

pub returns-clause-gates : goal.returns-clause-gates
returns-clause-gates c =
    equal_gates c.args.first c.args.xs.now c.args.ys.now c.args.gates.now.items c.loop-at.at c.loop-at.so_far c.loop-at.gates.items
    (omega arith) c.loop-at.invariant

pub returns-clause-value : goal.returns-clause-value
returns-clause-value c =
    equal_value c.args.first c.args.xs.now c.args.ys.now c.args.gates.now.items c.loop-at.at c.loop-at.so_far c.loop-at.gates.items
    (omega arith) c.loop-at.invariant
