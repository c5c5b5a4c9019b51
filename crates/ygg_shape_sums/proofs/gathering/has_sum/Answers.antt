use Rattle.std.proofs.Common.{rules, ◌≡◌, ◌<◌, ◌≤◌, ◌+◌, ◌-◌, ◌++◌, Some, length, drop, sym, ap, ◌∙◌, arith}
use Rattle.ygg_shape_sums.proofs.Fit.{part_at, looked_alike, longer_by}
use Rattle.ygg_shape_sums.proofs.Steps.{looked_goes, looked_there, looked_done, looked_spent}
use Rattle.ygg_shape_sums.specs.Gathers.{below, below_at, is_sum, is_sum_at}
use Rattle.ygg_shape_sums.specs.declared.gathering.TheConstants.{READ_LIMIT}
use Rattle.ygg_shape_sums.proofs.gathering.has_sum.Goals as goal

pub returns-then-place-len : goal.returns-then-place-len
returns-then-place-len c =
    let i = c.loop-place.place in
    let l : length c.loop-place.todo.items ≤ i = search rules in
    looked_done (is_sum_at c.args.bank.now) (below_at c.args.bank.now) (READ_LIMIT - i) c.loop-place.todo.items i l ∙ c.loop-place.invariant.went

pub read-requires-clause-term : goal.read-requires-clause-term
read-requires-clause-term c =
    let l : c.loop-place.place < length c.loop-place.todo.items = search rules in
    part_at c.args.bank.now c.loop-place.todo.items c.loop-place.place c.index-part.result.now c.index-part.ensures c.loop-place.invariant.alike l

pub returns-then-is_sum : goal.returns-then-is_sum
returns-then-is_sum c =
    let i = c.loop-place.place in
    let p = c.index-part.result.now in
    let l : c.loop-place.place < length c.loop-place.todo.items = search rules in
    let k : 0 < READ_LIMIT - i = omega (arith, c.loop-place-test.true) in
    looked_there (is_sum_at c.args.bank.now) (below_at c.args.bank.now) (READ_LIMIT - i) c.loop-place.todo.items i p p k l c.index-part.ensures
    (sym (c.is_sum.ensures ∙ ap is_sum c.read.ensures) ∙ c.if-is_sum.true) ∙ c.loop-place.invariant.went

pub node-requires : goal.node-requires
node-requires c =
    let l : c.loop-place.place < length c.loop-place.todo.items = search rules in
    part_at c.args.bank.now c.loop-place.todo.items c.loop-place.place c.index-part.result.now c.index-part.ensures c.loop-place.invariant.alike l

pub loop-place-preserved : goal.loop-place-preserved
loop-place-preserved c =
    let i = c.loop-place.place in
    let old = c.loop-place.todo.items in
    let p = c.index-part.result.now in
    let l : c.loop-place.place < length c.loop-place.todo.items = search rules in
    let k : 0 < READ_LIMIT - i = omega (arith, c.loop-place-test.true) in
    let e : READ_LIMIT - (i + 1) ≡ READ_LIMIT - i - 1 = omega arith in
    let h = c.in_ok-look.ensures ∙ ap (λ n. old ++ below p n) (sym c.node.ensures.there) in
    record {
      went = looked_goes (is_sum_at c.args.bank.now) (below_at c.args.bank.now) (READ_LIMIT - i) (READ_LIMIT - (i + 1)) old
          c.look.new.todo.items i p p k e l c.index-part.ensures
          (sym (c.is_sum.ensures ∙ ap is_sum c.read.ensures) ∙ c.if-is_sum.false) h ∙ c.loop-place.invariant.went;
      alike = looked_alike c.args.bank.now old c.look.new.todo.items i p c.requires.bank.ordered c.loop-place.invariant.alike l c.index-part.ensures h;
      within = longer_by old (below p (Some c.node.result)) c.look.new.todo.items i l c.in_ok-look.ensures;
    }

pub returns : goal.returns
returns c =
    let i = c.loop-place.place in
    let z : READ_LIMIT - i ≡ 0 = omega (arith, c.loop-place-test.false) in
    looked_spent (is_sum_at c.args.bank.now) (below_at c.args.bank.now) (READ_LIMIT - i) (drop i c.loop-place.todo.items) z
    ∙ c.loop-place.invariant.went
