use Rattle.std.proofs.Common.{IfOk, subst}
use Rattle.ygg_shape_words.specs.ygg_bank_proofs_Widths.{width_is}
use Rattle.ygg_shape_words.specs.ygg_bank.Nodes.{HasWidth}
use Rattle.ygg_shape_words.specs.ygg_bank.declared.node.Id.{Id}
use Rattle.ygg_shape_sums.proofs.Sides.{can_mul}
use Rattle.ygg_shape_sums.proofs.siding.product.Goals as goal

pub make-requires : goal.make-requires
make-requires g c = can_mul c.args.bank.now c.args.a c.args.b c.args.width c.requires.one c.requires.two

pub returns-clause-width : goal.returns-clause-width
returns-clause-width g c =
    subst (λ w. IfOk c.make.result (λ (id : Id). HasWidth c.make.new.self id w)) (width_is c.args.bank.now c.args.a c.args.width c.requires.one)
    c.make.ensures.width
