use Rattle.ygg_shape_words.specs.ygg_bank_proofs_Widths.{wider, extends_both}
use Rattle.ygg_shape_sums.proofs.siding.more.Goals as goal

pub product-requires-clause-one : goal.product-requires-clause-one
product-requires-clause-one g c = wider c.args.bank.now c.constant.new.bank c.args.term c.args.width c.constant.ensures.grows c.requires.term

pub sum-requires-2-clause-one : goal.sum-requires-2-clause-one
sum-requires-2-clause-one g c =
    wider c.args.bank.now c.product.new.bank c.args.so_far c.args.width
    (extends_both c.args.bank.now c.constant.new.bank c.product.new.bank c.constant.ensures.grows c.product.ensures.grows) c.requires.so_far

pub returns-in_err-multiple-clause-grows : goal.returns-in_err-multiple-clause-grows
returns-in_err-multiple-clause-grows g c =
    extends_both c.args.bank.now c.constant.new.bank c.product.new.bank c.constant.ensures.grows c.product.ensures.grows

pub returns-clause-grows : goal.returns-clause-grows
returns-clause-grows g c =
    extends_both c.args.bank.now c.product.new.bank c.sum-2.new.bank
    (extends_both c.args.bank.now c.constant.new.bank c.product.new.bank c.constant.ensures.grows c.product.ensures.grows) c.sum-2.ensures.grows
