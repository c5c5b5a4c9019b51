use Rattle.ygg_shape_sums.proofs.Factors.{all_stand, product_at}
use Rattle.ygg_shape_sums.proofs.splitting.all_several_test.Goals as goal

pub several_test-requires-clause-product : goal.several_test-requires-clause-product
several_test-requires-clause-product c =
    let h = c.requires.products in
    let p = c.product-item.result in
    let own = product_at c.args.bank.now c.args.products.now c.loop-product.product-index p h c.product-item.is c.loop-product-test.true in
    all_stand c.args.bank.now h.width p.factors own.factors
