use Rattle.std.proofs.Common.{◌≡◌, get_or, sym, subst}
use Rattle.ygg_shape_sums.proofs.Factors.{all_stand, product_at}
use Rattle.ygg_shape_sums.specs.Products.{Product}
use Rattle.ygg_shape_sums.proofs.multiplying.multiply.Goals as goal

pub open-requires-clause-factors : goal.open-requires-clause-factors
open-requires-clause-factors c =
    let h = c.requires.products in
    let m = c.in_ok-product.product in
    let there = subst (λ (z : Product). z ≡ get_or c.args.todo.now.items c.args.place z) (sym c.in_ok-product.ensures) c.index.ensures in
    let own = product_at c.args.bank.now c.args.todo.now.items c.args.place m h there c.requires.place in
    all_stand c.args.bank.now h.width m.rest own.rest
