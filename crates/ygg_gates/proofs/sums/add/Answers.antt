use Rattle.std.proofs.Common.{◌<◌, ◌+◌, arith, false, get_or, length, List, sym, subst}
use Rattle.std.proofs.lemmas.List.{get_or_default}
use Rattle.std.proofs.lemmas.Result.{IfOk-from_err}
use Rattle.ygg_cnf.specs.declared.lit.Lit.{Lit}
use Rattle.ygg_gates.proofs.Steps.{Adding, added_begins, added_goes, added_value, added_carry, added_gates}
use Rattle.ygg_gates.proofs.sums.add.Goals as goal

pub loop-place-init : goal.loop-place-init
loop-place-init c =
    let old = c.args.gates.now.items in
    subst (λ (bits : List Lit). Adding c.args.xs.now c.args.ys.now c.args.carry old 0 bits c.args.carry old) (sym c.new-bits.ensures)
    (added_begins c.args.xs.now c.args.ys.now c.args.carry old)

pub returns-in_err-one-clause-gates : goal.returns-in_err-one-clause-gates
returns-in_err-one-clause-gates c = IfOk-from_err c.from_residual.result _ c.from_residual.ensures.0

pub returns-in_err-one-clause-bits : goal.returns-in_err-one-clause-bits
returns-in_err-one-clause-bits c = IfOk-from_err c.from_residual.result _ c.from_residual.ensures.0

pub returns-in_err-one-clause-carry : goal.returns-in_err-one-clause-carry
returns-in_err-one-clause-carry c = IfOk-from_err c.from_residual.result _ c.from_residual.ensures.0

pub returns-in_err-push-clause-gates : goal.returns-in_err-push-clause-gates
returns-in_err-push-clause-gates c = IfOk-from_err c.from_residual-in_err-push.result _ c.from_residual-in_err-push.ensures.0

pub returns-in_err-push-clause-bits : goal.returns-in_err-push-clause-bits
returns-in_err-push-clause-bits c = IfOk-from_err c.from_residual-in_err-push.result _ c.from_residual-in_err-push.ensures.0

pub returns-in_err-push-clause-carry : goal.returns-in_err-push-clause-carry
returns-in_err-push-clause-carry c = IfOk-from_err c.from_residual-in_err-push.result _ c.from_residual-in_err-push.ensures.0

pub loop-place-preserved : goal.loop-place-preserved
loop-place-preserved c =
    let xs = c.args.xs.now in
    let ys = c.args.ys.now in
    let old = c.args.gates.now.items in
    let i = c.loop-place.place in
    let blank : Lit = record { var = 0; negated = false } in
    let x = get_or xs i blank in
    let y = get_or ys i blank in
    let in_xs : i < length xs = omega arith in
    let in_ys : i < length ys = omega arith in
    let one = c.in_ok-one.one in
    let next = c.add_bit.new.gates.items in
    let made = c.in_ok-one.ensures in
    subst (λ (bits : List Lit). Adding xs ys c.args.carry old (i + 1) bits one.carry next) (sym c.in_ok-push.ensures.ok)
    (added_goes xs ys c.args.carry old i c.loop-place.bits c.loop-place.carry c.loop-place.gates.items x y one next in_xs in_ys
    (get_or_default xs i blank x in_xs) (get_or_default ys i blank y in_ys) made.gates made.value c.loop-place.invariant)

pub returns-clause-gates : goal.returns-clause-gates
returns-clause-gates c =
    added_gates c.args.xs.now c.args.ys.now c.args.carry c.args.gates.now.items c.loop-place.place c.loop-place.bits c.loop-place.carry
    c.loop-place.gates.items (omega arith) c.loop-place.invariant

pub returns-clause-bits : goal.returns-clause-bits
returns-clause-bits c =
    added_value c.args.xs.now c.args.ys.now c.args.carry c.args.gates.now.items c.loop-place.place c.loop-place.bits c.loop-place.carry
    c.loop-place.gates.items (omega arith) c.loop-place.invariant

pub returns-clause-carry : goal.returns-clause-carry
returns-clause-carry c =
    added_carry c.args.xs.now c.args.ys.now c.args.carry c.args.gates.now.items c.loop-place.place c.loop-place.bits c.loop-place.carry
    c.loop-place.gates.items (omega arith) c.loop-place.invariant
