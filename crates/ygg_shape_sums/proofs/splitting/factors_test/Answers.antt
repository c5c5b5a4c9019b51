use Rattle.std.proofs.Common.{◌≡◌, Some, List, [], sym, ap, ◌∙◌, subst}
use Rattle.ygg_shape_sums.proofs.Reduces.{products_alike}
use Rattle.ygg_shape_sums.proofs.Splits.{parts_alike, parts_expanded_alike}
use Rattle.ygg_shape_sums.specs.Multiplies.{AreFound, expanded}
use Rattle.ygg_shape_sums.specs.Products.{Product, ProductsAlike}
use Rattle.ygg_shape_sums.specs.Reduces.{products_of}
use Rattle.ygg_shape_sums.specs.declared.multiplying.TheConstants.{MULTIPLY_LIMIT}
use Rattle.ygg_shape_sums.proofs.splitting.factors_test.Goals as goal

pub any_product-requires-clause-parts : goal.any_product-requires-clause-parts
any_product-requires-clause-parts c = parts_alike c.args.bank.now c.args.width c.args.parts.now c.requires.parts

pub expand-requires-clause-products : goal.expand-requires-clause-products
expand-requires-clause-products c =
    subst (ProductsAlike c.args.bank.now) (sym c.in_ok-start.ensures)
    (products_alike c.args.bank.now c.args.width c.args.parts.now c.requires.parts)

pub all_several_test-requires-clause-products : goal.all_several_test-requires-clause-products
all_several_test-requires-clause-products c =
    let bank = c.args.bank.now in
    let want = expanded MULTIPLY_LIMIT bank c.args.facts.now (products_of c.args.parts.now) [] in
    let e : want ≡ Some c.in-Some.products.items =
    ap (λ (ms : List Product). expanded MULTIPLY_LIMIT bank c.args.facts.now ms []) (sym c.in_ok-start.ensures)
    ∙ subst (AreFound (expanded MULTIPLY_LIMIT bank c.args.facts.now c.in_ok-start.start.items [])) c.in-Some.is c.in_ok-expand.ensures in
    subst (ProductsAlike bank) (sym c.as_slice.ensures.value)
    (parts_expanded_alike bank c.args.width c.args.facts.now c.args.parts.now c.in-Some.products.items c.requires.bank.ordered c.requires.parts e)
