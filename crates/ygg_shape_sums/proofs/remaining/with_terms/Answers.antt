use Rattle.ygg_shape_words.specs.ygg_bank_proofs_Widths.{extends_both}
use Rattle.ygg_shape_sums.proofs.Factors.{product_at}
use Rattle.ygg_shape_sums.proofs.Remains.{product_wider}
use Rattle.ygg_shape_sums.proofs.Steps.{with_terms_goes}
use Rattle.ygg_shape_sums.proofs.remaining.with_terms.Goals as goal

pub with_term-requires-clause-product : goal.with_term-requires-clause-product
with_term-requires-clause-product g c =
    let old = c.args.bank.now in
    let p = c.product-item.result in
    product_wider old c.loop-product.bank c.args.width p c.loop-product.invariant.grows
    (product_at old c.args.products.now c.loop-product.product-index p (record { width = c.args.width; fit = c.requires.products }) c.product-item.is
    c.loop-product-test.true)

pub loop-product-preserved : goal.loop-product-preserved
loop-product-preserved g c =
    record {
      went = with_terms_goes (g.B.Book.kinds c.args.book.now) c.args.width c.args.products.now _ c.args.bank.now c.loop-product.product-index
          c.loop-product.sum c.loop-product.bank c.product-item.result _ c.with_term.new.sum c.with_term.new.bank c.loop-product-test.true
          c.product-item.is c.in_ok-with_term.ensures.nodes c.in_ok-with_term.ensures.form c.loop-product.invariant.went;
      grows = extends_both c.args.bank.now c.loop-product.bank c.with_term.new.bank c.loop-product.invariant.grows c.with_term.ensures.grows;
      fit = c.in_ok-with_term.ensures.parts;
      bank = c.with_term.ensures.bank;
    }
