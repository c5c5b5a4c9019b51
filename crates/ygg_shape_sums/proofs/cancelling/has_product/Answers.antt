use Rattle.std.proofs.Common.{rules, ◌≡◌, ◌<◌, ◌≤◌, ◌+◌, ◌-◌, [], Some, length, drop, slice_get, sym, ap, ◌∙◌, arith}
use Rattle.ygg_shape_sums.proofs.Cancels.{entered_alike}
use Rattle.ygg_shape_sums.proofs.Fit.{part_at, longer_by}
use Rattle.ygg_shape_sums.proofs.Steps.{looked_goes, looked_there, looked_done, looked_spent}
use Rattle.ygg_shape_sums.specs.Cancels.{inside, is_product, is_product_at}
use Rattle.ygg_shape_sums.specs.Readings.{read}
use Rattle.ygg_shape_sums.specs.declared.gathering.TheConstants.{READ_LIMIT}
use Rattle.ygg_shape_sums.specs.declared.reading.Decomposition.{Decomposition}
use Rattle.ygg_shape_sums.proofs.cancelling.has_product.Goals as goal

pub returns-then-place-len : goal.returns-then-place-len
returns-then-place-len c =
    let i = c.loop-place.place in
    let l : length c.loop-place.todo.items ≤ i = search rules in
    looked_done (is_product_at c.args.bank.now) (inside c.args.bank.now) (READ_LIMIT - i) c.loop-place.todo.items i l ∙ c.loop-place.invariant.went

pub read-requires-clause-term : goal.read-requires-clause-term
read-requires-clause-term c =
    let l : c.loop-place.place < length c.loop-place.todo.items = search rules in
    part_at c.args.bank.now c.loop-place.todo.items c.loop-place.place c.index-part.result.now c.index-part.ensures c.loop-place.invariant.alike l

pub node-requires : goal.node-requires
node-requires c =
    let l : c.loop-place.place < length c.loop-place.todo.items = search rules in
    part_at c.args.bank.now c.loop-place.todo.items c.loop-place.place c.index-part.result.now c.index-part.ensures c.loop-place.invariant.alike l

pub returns-then-is_product : goal.returns-then-is_product
returns-then-is_product c =
    let i = c.loop-place.place in
    let p = c.index-part.result.now in
    let l : c.loop-place.place < length c.loop-place.todo.items = search rules in
    let k : 0 < READ_LIMIT - i = omega (arith, c.loop-place-test.true) in
    looked_there (is_product_at c.args.bank.now) (inside c.args.bank.now) (READ_LIMIT - i) c.loop-place.todo.items i p p k l c.index-part.ensures
    (sym (c.is_product.ensures ∙ ap (λ (r : Decomposition). is_product r (Some c.node.result)) c.read.ensures
    ∙ ap (is_product (read c.args.bank.now [] (slice_get c.args.bank.now p.term.0))) (sym c.node.ensures.there))
    ∙ c.if-is_product.true) ∙ c.loop-place.invariant.went

pub enter-requires-clause-part : goal.enter-requires-clause-part
enter-requires-clause-part c =
    let l : c.loop-place.place < length c.loop-place.todo.items = search rules in
    part_at c.args.bank.now c.loop-place.todo.items c.loop-place.place c.index-part.result.now c.index-part.ensures c.loop-place.invariant.alike l

pub loop-place-preserved : goal.loop-place-preserved
loop-place-preserved c =
    let i = c.loop-place.place in
    let old = c.loop-place.todo.items in
    let p = c.index-part.result.now in
    let l : c.loop-place.place < length c.loop-place.todo.items = search rules in
    let k : 0 < READ_LIMIT - i = omega (arith, c.loop-place-test.true) in
    let e : READ_LIMIT - (i + 1) ≡ READ_LIMIT - i - 1 = omega arith in
    let h = c.in_ok-enter.ensures in
    record {
      went = looked_goes (is_product_at c.args.bank.now) (inside c.args.bank.now) (READ_LIMIT - i) (READ_LIMIT - (i + 1)) old c.enter.new.todo.items i p p k e l
          c.index-part.ensures
          (sym (c.is_product.ensures ∙ ap (λ (r : Decomposition). is_product r (Some c.node.result)) c.read.ensures
          ∙ ap (is_product (read c.args.bank.now [] (slice_get c.args.bank.now p.term.0))) (sym c.node.ensures.there))
          ∙ c.if-is_product.false) h ∙ c.loop-place.invariant.went;
      alike = entered_alike c.args.bank.now old c.enter.new.todo.items i p c.requires.bank.ordered c.loop-place.invariant.alike l c.index-part.ensures h;
      within = longer_by old (inside c.args.bank.now p) c.enter.new.todo.items i l h;
    }

pub returns : goal.returns
returns c =
    let i = c.loop-place.place in
    let z : READ_LIMIT - i ≡ 0 = omega (arith, c.loop-place-test.false) in
    looked_spent (is_product_at c.args.bank.now) (inside c.args.bank.now) (READ_LIMIT - i) (drop i c.loop-place.todo.items) z ∙ c.loop-place.invariant.went
