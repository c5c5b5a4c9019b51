use Rattle.std.proofs.Common.{IfOk, subst}
use Rattle.ygg_shape_sums.specs.ygg_bank_proofs_Widths.{width_is}
use Rattle.ygg_shape_sums.specs.ygg_bank.Nodes.{HasWidth}
use Rattle.ygg_shape_sums.specs.ygg_bank.declared.node.Id.{Id}
use Rattle.ygg_shape_sums.specs.ygg_shape_words_proofs_Fit.{can_and}
use Rattle.ygg_shape.proofs.equating.both.Goals as goal

pub make-requires : goal.make-requires
make-requires g c =
    let k = can_and c.args.bank.now c.args.one c.args.two 1 c.requires.one c.requires.two in record { one = k.one; two = k.two; widths = k.widths }

pub returns-clause-width : goal.returns-clause-width
returns-clause-width g c =
    subst (λ w. IfOk c.make.result (λ (id : Id). HasWidth c.make.new.self id w)) (width_is c.args.bank.now c.args.one 1 c.requires.one) c.make.ensures.width
