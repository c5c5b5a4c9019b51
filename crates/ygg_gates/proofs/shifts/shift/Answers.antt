use Rattle.std.proofs.Common.{◌≡◌, ◌∙◌, ◌-◌, ap, arith, refl, subst, ℕ, List, length, take, drop, replicate, IfOk, OnOk}
use Rattle.std.proofs.lemmas.List.{length-take, length-drop, take_all}
use Rattle.std.proofs.lemmas.Result.{IfOk-from_err}
use Rattle.ygg_cnf.specs.Literals.{complement}
use Rattle.ygg_cnf.specs.declared.lit.Lit.{Lit}
use Rattle.ygg_gates.specs.Circuits.{Out, false_literal}
use Rattle.ygg_gates.specs.Rows.{any_bit, joined_each, near, shifted, shifted_near}
use Rattle.ygg_gates.specs.declared.gate.Gate.{Gate}
use Rattle.ygg_gates.specs.declared.gate.Joint.TheVariants as joint
use Rattle.ygg_gates.specs.declared.gate.Way.{Way}
use Rattle.ygg_gates.proofs.shifts.shift.Goals as goal

pub shift_near-requires : goal.shift_near-requires
shift_near-requires c k l =
    let size = length-take c.near-near.result c.args.amount.now in
    c.near-near.ensures.below k (omega (arith, l, size))

pub returns-in_err-first-clause-gates : goal.returns-in_err-first-clause-gates
returns-in_err-first-clause-gates c = IfOk-from_err c.from_residual.result _ c.from_residual.ensures.0

pub returns-in_err-first-clause-value : goal.returns-in_err-first-clause-value
returns-in_err-first-clause-value c = IfOk-from_err c.from_residual.result _ c.from_residual.ensures.0

pub returns-in_err-value-clause-gates : goal.returns-in_err-value-clause-gates
returns-in_err-value-clause-gates c = IfOk-from_err c.from_residual-in_err-value.result _ c.from_residual-in_err-value.ensures.0

pub returns-in_err-value-clause-value : goal.returns-in_err-value-clause-value
returns-in_err-value-clause-value c = IfOk-from_err c.from_residual-in_err-value.result _ c.from_residual-in_err-value.ensures.0

pub returns-in_err-over-clause-gates : goal.returns-in_err-over-clause-gates
returns-in_err-over-clause-gates c = IfOk-from_err c.from_residual-in_err-over.result _ c.from_residual-in_err-over.ensures.0

pub returns-in_err-over-clause-value : goal.returns-in_err-over-clause-value
returns-in_err-over-clause-value c = IfOk-from_err c.from_residual-in_err-over.result _ c.from_residual-in_err-over.ensures.0

pub returns-in_err-within-clause-gates : goal.returns-in_err-within-clause-gates
returns-in_err-within-clause-gates c = IfOk-from_err c.from_residual-in_err-within.result _ c.from_residual-in_err-within.ensures.0

pub returns-in_err-within-clause-value : goal.returns-in_err-within-clause-value
returns-in_err-within-clause-value c = IfOk-from_err c.from_residual-in_err-within.result _ c.from_residual-in_err-within.ensures.0

-- the steps of a shift, one after the other, make what a shift makes
whole : (way : Way) (xs amount rest : List Lit) (old then next : List Gate) (n size : ℕ) (first value within : List Lit) (none over turned : Lit)
    → within ≡ replicate size turned → size ≡ length value → turned ≡ complement over → over ≡ (any_bit none rest then).value
    → next ≡ (any_bit none rest then).gates → rest ≡ drop n amount → none ≡ false_literal
    → value ≡ (shifted_near way first 0 (take n amount) old).value → then ≡ (shifted_near way first 0 (take n amount) old).gates → first ≡ xs
    → n ≡ near (length xs) 0 amount → joined_each joint.And value within next ≡ shifted way xs amount old
whole way xs amount rest old then next n size first value within none over turned a b d e f r g h i j k = rw (a, b, d, e, f, r, g, h, i, j, k) refl

-- the slice from a place to the end
to_end : (xs : List Lit) (n : ℕ) → take (length xs - n) (drop n xs) ≡ drop n xs
to_end xs n = let size = length-drop n xs in take_all (length xs - n) (drop n xs) (omega (arith, size))

-- what the last step is given makes what a shift makes
last : (c : goal.After-drop-value-inside-2) → joined_each joint.And c.as_slice.result.now c.as_slice-2.result.now c.any.new.gates.items
    ≡ shifted c.args.way c.args.xs.now c.args.amount.now c.args.gates.now.items
last c =
    let amount = c.args.amount.now in
    let n = c.near-near.result in
    let gates = c.any.new.gates.items in
    ap (λ (l : List Lit). joined_each joint.And l c.as_slice-2.result.now gates) c.as_slice.ensures
    ∙ ap (λ (l : List Lit). joined_each joint.And c.in_ok-value.value l gates) c.as_slice-2.ensures
    ∙ whole c.args.way c.args.xs.now amount (take (length amount - n) (drop n amount)) c.args.gates.now.items c.shift_near.new.gates.items gates n
    c.len.result c.in_ok-first.first c.in_ok-value.value c.in_ok-within.within c.false_literal.result c.in_ok-over.over c.complement.result
    c.in_ok-within.ensures c.len.ensures c.complement.ensures c.in_ok-over.ensures.value c.in_ok-over.ensures.gates (to_end amount n)
    c.false_literal.ensures c.in_ok-value.ensures.value c.in_ok-value.ensures.gates c.in_ok-first.ensures c.near-near.ensures.count

pub returns-clause-gates : goal.returns-clause-gates
returns-clause-gates c =
    subst (λ (o : Out (List Lit)). OnOk c.join_each.result (c.join_each.new.gates.items ≡ o.gates)) (last c) c.join_each.ensures.gates

pub returns-clause-value : goal.returns-clause-value
returns-clause-value c = subst (λ (o : Out (List Lit)). IfOk c.join_each.result (λ bits. bits ≡ o.value)) (last c) c.join_each.ensures.value
