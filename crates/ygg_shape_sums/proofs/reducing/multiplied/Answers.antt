use Rattle.std.proofs.Common.{List, sym, ap, ◌∙◌, subst}
use Rattle.ygg_shape_sums.proofs.Reduces.{products_alike}
use Rattle.ygg_shape_sums.specs.Parts.{PartsFit}
use Rattle.ygg_shape_sums.specs.Products.{ProductsAlike}
use Rattle.ygg_shape_sums.specs.Reduces.{products_of}
use Rattle.ygg_shape_sums.specs.declared.parts.Summand.{Summand}
use Rattle.ygg_shape_sums.proofs.reducing.multiplied.Goals as goal

pub expand-requires-clause-products : goal.expand-requires-clause-products
expand-requires-clause-products c =
    subst (ProductsAlike c.args.bank.now) (sym (c.in_ok-start.ensures ∙ ap (λ (ps : List Summand). products_of ps) c.parts-2.ensures))
    (products_alike c.args.bank.now c.args.width (c.args.sum.now).parts c.requires.parts)

pub any_product-requires-clause-parts : goal.any_product-requires-clause-parts
any_product-requires-clause-parts c =
    record { width = c.args.width; fit = subst (PartsFit c.args.bank.now c.args.width) (sym c.parts.ensures) c.requires.parts }
