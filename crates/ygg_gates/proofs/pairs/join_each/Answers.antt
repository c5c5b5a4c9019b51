use Rattle.std.proofs.Common.{◌<◌, ◌+◌, arith, false, get_or, length, List, sym, subst}
use Rattle.std.proofs.lemmas.List.{get_or_default}
use Rattle.std.proofs.lemmas.Result.{IfOk-from_err}
use Rattle.ygg_cnf.specs.declared.lit.Lit.{Lit}
use Rattle.ygg_gates.proofs.Steps.{Joined, joined_begins, joined_goes, joined_value, joined_gates}
use Rattle.ygg_gates.proofs.pairs.join_each.Goals as goal

pub loop-place-init : goal.loop-place-init
loop-place-init c =
    let old = c.args.gates.now.items in
    subst (λ (bits : List Lit). Joined c.args.joint c.args.xs.now c.args.ys.now old 0 bits old) (sym c.new-bits.ensures)
    (joined_begins c.args.joint c.args.xs.now c.args.ys.now old)

pub returns-in_err-bit-clause-gates : goal.returns-in_err-bit-clause-gates
returns-in_err-bit-clause-gates c = IfOk-from_err c.from_residual.result _ c.from_residual.ensures.0

pub returns-in_err-bit-clause-value : goal.returns-in_err-bit-clause-value
returns-in_err-bit-clause-value c = IfOk-from_err c.from_residual.result _ c.from_residual.ensures.0

pub returns-in_err-push-clause-gates : goal.returns-in_err-push-clause-gates
returns-in_err-push-clause-gates c = IfOk-from_err c.from_residual-in_err-push.result _ c.from_residual-in_err-push.ensures.0

pub returns-in_err-push-clause-value : goal.returns-in_err-push-clause-value
returns-in_err-push-clause-value c = IfOk-from_err c.from_residual-in_err-push.result _ c.from_residual-in_err-push.ensures.0

pub loop-place-preserved : goal.loop-place-preserved
loop-place-preserved c =
    let xs = c.args.xs.now in
    let ys = c.args.ys.now in
    let old = c.args.gates.now.items in
    let i = c.loop-place.place in
    let blank : Lit = record { var = 0; negated = false } in
    let x = get_or xs i blank in
    let y = get_or ys i blank in
    let in_xs : i < length xs = omega arith in
    let in_ys : i < length ys = omega arith in
    let next = c.join.new.gates.items in
    let made = c.in_ok-bit.ensures in
    subst (λ (bits : List Lit). Joined c.args.joint xs ys old (i + 1) bits next) (sym c.in_ok-push.ensures.ok)
    (joined_goes c.args.joint xs ys old i c.loop-place.bits c.loop-place.gates.items x y c.in_ok-bit.bit next in_xs in_ys
    (get_or_default xs i blank x in_xs) (get_or_default ys i blank y in_ys) made.gates made.value c.loop-place.invariant)

pub returns-clause-gates : goal.returns-clause-gates
returns-clause-gates c =
    joined_gates c.args.joint c.args.xs.now c.args.ys.now c.args.gates.now.items c.loop-place.place c.loop-place.bits c.loop-place.gates.items
    (omega arith) c.loop-place.invariant

pub returns-clause-value : goal.returns-clause-value
returns-clause-value c =
    joined_value c.args.joint c.args.xs.now c.args.ys.now c.args.gates.now.items c.loop-place.place c.loop-place.bits c.loop-place.gates.items
    (omega arith) c.loop-place.invariant
