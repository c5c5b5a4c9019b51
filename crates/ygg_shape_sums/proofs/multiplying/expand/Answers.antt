use Rattle.std.proofs.Common.{rules, ◌≡◌, ◌<◌, ◌≤◌, ◌+◌, ◌-◌, [], length, drop, get_or, sym, ◌∙◌, arith}
use Rattle.ygg_shape_sums.proofs.Factors.{opened_alike, longer_by_products}
use Rattle.ygg_shape_sums.proofs.Walks.{item_is, expanded_goes, expanded_done, expanded_spent}
use Rattle.ygg_shape_sums.specs.Multiplies.{opened}
use Rattle.ygg_shape_sums.specs.Products.{Product}
use Rattle.ygg_shape_sums.specs.declared.multiplying.TheConstants.{MULTIPLY_LIMIT}
use Rattle.ygg_shape_sums.proofs.multiplying.expand.Goals as goal

pub returns-then-place-len : goal.returns-then-place-len
returns-then-place-len c =
    let i = c.loop-place.place in
    let k : 0 < MULTIPLY_LIMIT - i = omega (arith, c.loop-place-test.true) in
    let l : length c.loop-place.todo.items ≤ i = search rules in
    sym c.loop-place.invariant.went
    ∙ expanded_done c.args.bank.now c.args.facts.now (MULTIPLY_LIMIT - i) c.loop-place.todo.items i c.loop-place.sum.items k l

pub loop-place-preserved : goal.loop-place-preserved
loop-place-preserved c =
    let i = c.loop-place.place in
    let old = c.loop-place.todo.items in
    let none : Product = record { times = 0; factors = []; rest = [] } in
    let m = get_or old i none in
    let l : c.loop-place.place < length c.loop-place.todo.items = search rules in
    let k : 0 < MULTIPLY_LIMIT - i = omega (arith, c.loop-place-test.true) in
    let e : MULTIPLY_LIMIT - (i + 1) ≡ MULTIPLY_LIMIT - i - 1 = omega arith in
    let there = item_is old i none m l in
    let h = c.in_ok-multiply.ensures.todo m there in
    record {
      went = expanded_goes c.args.bank.now c.args.facts.now (MULTIPLY_LIMIT - i) (MULTIPLY_LIMIT - (i + 1)) old c.multiply.new.todo.items i m m
          c.loop-place.sum.items c.multiply.new.sum.items k e l there h (c.in_ok-multiply.ensures.sum m there) ∙ c.loop-place.invariant.went;
      alike = opened_alike c.args.bank.now c.args.facts.now old c.multiply.new.todo.items i m c.requires.bank.ordered c.loop-place.invariant.alike l there h;
      within = longer_by_products old (opened c.args.bank.now c.args.facts.now m m.rest) c.multiply.new.todo.items i l h;
    }

pub returns : goal.returns
returns c =
    let i = c.loop-place.place in
    let z : MULTIPLY_LIMIT - i ≡ 0 = omega (arith, c.loop-place-test.false) in
    sym c.loop-place.invariant.went
    ∙ expanded_spent c.args.bank.now c.args.facts.now (MULTIPLY_LIMIT - i) (drop i c.loop-place.todo.items) c.loop-place.sum.items z
