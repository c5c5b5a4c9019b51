use Rattle.std.proofs.Common.{rules, ◌≡◌, ◌<◌, ◌≤◌, ◌+◌, ◌-◌, ◌++◌, length, drop, sym, ap, ◌∙◌, arith}
use Rattle.ygg_shape_sums.proofs.Fit.{part_at, listed_alike, longer_by}
use Rattle.ygg_shape_sums.proofs.Steps.{gathered_goes, gathered_done, gathered_spent, rest_all}
use Rattle.ygg_shape_sums.specs.Gathers.{with_all, counted, parts_of}
use Rattle.ygg_shape_sums.specs.declared.gathering.TheConstants.{READ_LIMIT}
use Rattle.ygg_shape_sums.specs.declared.reading.Decomposition.{Decomposition}
use Rattle.ygg_shape_sums.proofs.gathering.gather.Goals as goal

pub returns-then-place-len : goal.returns-then-place-len
returns-then-place-len c =
    let i = c.loop-place.place in
    let k : 0 < READ_LIMIT - i = omega (arith, c.loop-place-test.true) in
    let l : length c.loop-place.todo.items ≤ i = search rules in
    sym (gathered_done (READ_LIMIT - i) c.args.bank.now c.args.facts.now c.loop-place.todo.items i c.loop-place.sum k l) ∙ c.loop-place.invariant.went

pub read-requires-clause-term : goal.read-requires-clause-term
read-requires-clause-term c =
    let l : c.loop-place.place < length c.loop-place.todo.items = search rules in
    part_at c.args.bank.now c.loop-place.todo.items c.loop-place.place c.index-part.result.now c.index-part.ensures c.loop-place.invariant.alike l

pub loop-place-preserved : goal.loop-place-preserved
loop-place-preserved c =
    let i = c.loop-place.place in
    let old = c.loop-place.todo.items in
    let p = c.index-part.result.now in
    let l : c.loop-place.place < length c.loop-place.todo.items = search rules in
    let k : 0 < READ_LIMIT - i = omega (arith, c.loop-place-test.true) in
    let e : READ_LIMIT - (i + 1) ≡ READ_LIMIT - i - 1 = omega arith in
    let h = c.in_ok-take_apart.ensures.todo ∙ ap (λ (r : Decomposition). old ++ parts_of p r) c.read.ensures in
    let j = c.in_ok-take_apart.ensures.sum ∙ ap (λ (r : Decomposition). counted p r c.loop-place.sum) c.read.ensures in
    record {
      went = gathered_goes (READ_LIMIT - i) (READ_LIMIT - (i + 1)) c.args.bank.now c.args.facts.now old c.take_apart.new.todo.items i p p c.loop-place.sum
          c.take_apart.new.sum k e l c.index-part.ensures h j ∙ c.loop-place.invariant.went;
      alike = listed_alike c.args.bank.now c.args.facts.now old c.take_apart.new.todo.items i p c.requires.bank.ordered c.loop-place.invariant.alike l
          c.index-part.ensures h;
      within = longer_by old (parts_of p c.read.result) c.take_apart.new.todo.items i l c.in_ok-take_apart.ensures.todo;
    }

pub returns : goal.returns
returns c =
    let i = c.loop-place.place in
    let e : i ≡ READ_LIMIT = omega (arith, c.loop-place-test.false, c.loop-place.auto.place-end) in
    let z : READ_LIMIT - i ≡ 0 = omega arith in
    c.in_ok-add_all.ensures ∙ ap (λ z. with_all z c.loop-place.sum) (rest_all c.as_slice.result.now READ_LIMIT)
    ∙ ap (λ z. with_all (drop READ_LIMIT z) c.loop-place.sum) c.as_slice.ensures.value
    ∙ ap (λ n. with_all (drop n c.loop-place.todo.items) c.loop-place.sum) (sym e)
    ∙ sym (gathered_spent (READ_LIMIT - i) c.args.bank.now c.args.facts.now (drop i c.loop-place.todo.items) c.loop-place.sum z)
    ∙ c.loop-place.invariant.went
