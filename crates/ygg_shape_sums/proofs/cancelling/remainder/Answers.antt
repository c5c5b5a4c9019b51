use Rattle.std.proofs.Common.{◌≡◌, Some, List, [], sym, ap, ◌∙◌, subst}
use Rattle.ygg_shape_sums.proofs.Cancels.{singles, singles_alike, sum_alike}
use Rattle.ygg_shape_sums.specs.Multiplies.{AreFound, expanded}
use Rattle.ygg_shape_sums.specs.Products.{Product, ProductsAlike}
use Rattle.ygg_shape_sums.specs.declared.multiplying.TheConstants.{MULTIPLY_LIMIT}
use Rattle.ygg_shape_sums.proofs.cancelling.remainder.Goals as goal

pub expand-requires-clause-products : goal.expand-requires-clause-products
expand-requires-clause-products c =
    subst (ProductsAlike c.args.bank.now) (sym c.in_ok-start.ensures)
    (singles_alike c.args.bank.now c.args.width c.args.one c.args.two c.requires.one c.requires.two)

pub outcome_of-requires-clause-products : goal.outcome_of-requires-clause-products
outcome_of-requires-clause-products c =
    let bank = c.args.bank.now in
    let want = expanded MULTIPLY_LIMIT bank c.args.facts.now (singles c.args.one c.args.two) [] in
    let e : want ≡ Some c.in-Some.sum.items =
    ap (λ (ms : List Product). expanded MULTIPLY_LIMIT bank c.args.facts.now ms []) (sym c.in_ok-start.ensures)
    ∙ subst (AreFound (expanded MULTIPLY_LIMIT bank c.args.facts.now c.in_ok-start.start.items [])) c.in-Some.is c.in_ok-expand.ensures in
    subst (ProductsAlike bank) (sym c.as_slice.ensures.value)
    (sum_alike bank c.args.width c.args.facts.now c.args.one c.args.two c.in-Some.sum.items c.requires.bank.ordered c.requires.one c.requires.two e)
