use Rattle.std.proofs.Common.{false, get_or}
use Rattle.std.proofs.lemmas.List.{get_or_default}
use Rattle.std.proofs.lemmas.Result.{IfOk-from_err}
use Rattle.ygg_cnf.specs.declared.lit.Lit.{Lit}
use Rattle.ygg_gates.proofs.Steps.{any_begins, any_goes, any_value, any_gates}
use Rattle.ygg_gates.proofs.comparisons.any.Goals as goal

pub loop-at-init : goal.loop-at-init
loop-at-init c = any_begins c.args.first c.args.bits.now c.args.gates.now.items

pub returns-in_err-so_far-clause-gates : goal.returns-in_err-so_far-clause-gates
returns-in_err-so_far-clause-gates c = IfOk-from_err c.from_residual.result _ c.from_residual.ensures.0

pub returns-in_err-so_far-clause-value : goal.returns-in_err-so_far-clause-value
returns-in_err-so_far-clause-value c = IfOk-from_err c.from_residual.result _ c.from_residual.ensures.0

pub loop-at-preserved : goal.loop-at-preserved
loop-at-preserved c =
    let bits = c.args.bits.now in
    let i = c.loop-at.at in
    let blank : Lit = record { var = 0; negated = false } in
    let bit = get_or bits i blank in
    let made = c.in_ok-so_far.ensures in
    any_goes c.args.first bits c.args.gates.now.items i c.loop-at.so_far c.loop-at.gates.items bit c.in_ok-so_far.so_far c.either.new.gates.items
    c.loop-at-test.true (get_or_default bits i blank bit c.loop-at-test.true) made.gates made.value c.loop-at.invariant

pub returns-clause-gates : goal.returns-clause-gates
returns-clause-gates c =
    any_gates c.args.first c.args.bits.now c.args.gates.now.items c.loop-at.at c.loop-at.so_far c.loop-at.gates.items c.loop-at-test.false c.loop-at.invariant

pub returns-clause-value : goal.returns-clause-value
returns-clause-value c =
    any_value c.args.first c.args.bits.now c.args.gates.now.items c.loop-at.at c.loop-at.so_far c.loop-at.gates.items c.loop-at-test.false c.loop-at.invariant
