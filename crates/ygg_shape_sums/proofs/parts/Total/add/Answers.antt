use Rattle.std.proofs.Common.{rules, ◌≡◌, ◌<◌, ◌≤◌, ◌==◌, ℕ, List, true, false, length, sym, ap, ◌∙◌, arith}
use Rattle.std.specs.Prelude.{nat_lt}
use Rattle.std.proofs.lemmas.Bool.Decides.{nat_tests}
use Rattle.ygg_shape_sums.proofs.Steps.{then_ok, merged_there, merged_before, merged_end}
use Rattle.ygg_shape_sums.specs.Parts.{Sum, with_part}
use Rattle.ygg_shape_sums.specs.contracts.parts.Total.{the_view}
use Rattle.ygg_shape_sums.specs.declared.parts.Summand.{Summand}
use Rattle.ygg_shape_sums.proofs.parts.Total.add.Goals as goal

abbrev with_parts : ℕ → List Summand → Sum
with_parts n ps = record { number = n; parts = ps }

pub returns-then-known-part : goal.returns-then-known-part
returns-then-known-part c =
    let l : c.loop-place.place < length c.loop-place.self-inside.parts.items = search rules in
    let t : (c.index-known.result.now.term.0 == c.args.part.term.0) ≡ true = grind (arith, nat_tests, c.if-known-part.true) in
    let e = ap the_view c.loop-place.invariant.same ∙ c.self.view_is in
    ap (with_parts c.loop-place.self-inside.number) (sym (merged_there c.args.part c.index-known.result.now c.index-known.result.now
    c.loop-place.self-inside.parts.items c.loop-place.place l c.index-known.ensures c.loop-place.invariant.went t)) ∙ ap (with_part c.args.part) e

pub returns-then-part-known : goal.returns-then-part-known
returns-then-part-known c =
    let l : c.loop-place.place < length c.loop-place.self-inside.parts.items = search rules in
    let t : (c.index-known.result.now.term.0 == c.args.part.term.0) ≡ false = grind (arith, nat_tests, c.if-known-part.false) in
    let u : nat_lt c.args.part.term.0 c.index-known.result.now.term.0 ≡ true = grind (arith, nat_tests, c.if-part-known.true) in
    let e = ap the_view c.loop-place.invariant.same ∙ c.self.view_is in
    then_ok c.insert.result _ _ c.insert.ensures (λ h.
    ap (with_parts c.loop-place.self-inside.number) (h ∙ sym (merged_before c.args.part c.index-known.result.now c.index-known.result.now
    c.loop-place.self-inside.parts.items c.loop-place.place l c.index-known.ensures c.loop-place.invariant.went t u)) ∙ ap (with_part c.args.part) e)

pub returns : goal.returns
returns c =
    let l : length c.loop-place.self-inside.parts.items ≤ c.loop-place.place = search rules in
    let e = ap the_view c.loop-place.invariant.same ∙ c.self.view_is in
    then_ok c.put.result _ _ c.put.ensures (λ h.
    ap (with_parts c.loop-place.self-inside.number) (h ∙ sym (merged_end c.args.part
    c.loop-place.self-inside.parts.items c.loop-place.place l c.loop-place.invariant.went)) ∙ ap (with_part c.args.part) e)
