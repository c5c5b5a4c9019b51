use Rattle.std.proofs.Common.{◌∙◌, ◌^◌, ap, false, get_or, List}
use Rattle.std.proofs.lemmas.List.{get_or_default}
use Rattle.ygg_cnf.specs.declared.lit.Lit.{Lit}
use Rattle.ygg_gates.specs.Rows.{joined_each, moved}
use Rattle.ygg_gates.specs.declared.gate.Joint.TheVariants as joint
use Rattle.ygg_gates.proofs.Steps.{shifted_begins, shifted_goes, shifted_value, shifted_gates}
use Rattle.ygg_gates.proofs.shifts.shift_near.Goals as goal

pub loop-place-init : goal.loop-place-init
loop-place-init c = shifted_begins c.args.way c.args.first c.args.amount.now c.args.gates.now.items

pub loop-place-preserved : goal.loop-place-preserved
loop-place-preserved c =
    let amount = c.args.amount.now in
    let i = c.loop-place.place in
    let now = c.loop-place.gates.items in
    let blank : Lit = record { var = 0; negated = false } in
    let bit = get_or amount i blank in
    let whole = c.as_slice.ensures in
    shifted_goes c.args.way c.args.first amount c.args.gates.now.items i c.loop-place.value now bit c.in_ok-value.value c.shift_bit.new.gates.items
    c.loop-place-test.true (get_or_default amount i blank bit c.loop-place-test.true)
    (c.in_ok-value.ensures.gates ∙ ap (λ (l : List Lit). (joined_each (joint.Pick bit) (moved c.args.way (2 ^ i) l) l now).gates) whole)
    (c.in_ok-value.ensures.value ∙ ap (λ (l : List Lit). (joined_each (joint.Pick bit) (moved c.args.way (2 ^ i) l) l now).value) whole)
    c.loop-place.invariant

pub returns-clause-gates : goal.returns-clause-gates
returns-clause-gates c =
    shifted_gates c.args.way c.args.first c.args.amount.now c.args.gates.now.items c.loop-place.place c.loop-place.value c.loop-place.gates.items
    c.loop-place-test.false c.loop-place.invariant

pub returns-clause-value : goal.returns-clause-value
returns-clause-value c =
    shifted_value c.args.way c.args.first c.args.amount.now c.args.gates.now.items c.loop-place.place c.loop-place.value c.loop-place.gates.items
    c.loop-place-test.false c.loop-place.invariant
