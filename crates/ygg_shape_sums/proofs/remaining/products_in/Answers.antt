use Rattle.std.proofs.Common.{sym, subst}
use Rattle.ygg_shape_sums.proofs.Reduces.{products_alike}
use Rattle.ygg_shape_sums.proofs.Splits.{parts_alike}
use Rattle.ygg_shape_sums.specs.Products.{ProductsAlike}
use Rattle.ygg_shape_sums.proofs.remaining.products_in.Goals as goal

pub any_product-requires-clause-parts : goal.any_product-requires-clause-parts
any_product-requires-clause-parts c = parts_alike c.args.bank.now c.args.width c.args.parts.now c.requires.parts

pub expand-requires-clause-products : goal.expand-requires-clause-products
expand-requires-clause-products c =
    subst (ProductsAlike c.args.bank.now) (sym c.in_ok-start.ensures)
    (products_alike c.args.bank.now c.args.width c.args.parts.now c.requires.parts)
