use Rattle.std.proofs.Common.{IfOk, subst}
use Rattle.ygg_sym_spec.specs.ygg_bank_proofs_Widths.{width_is, stands}
use Rattle.ygg_sym_spec.specs.ygg_bank.Nodes.{HasWidth}
use Rattle.ygg_sym_spec.specs.ygg_bank.declared.node.Id.{Id}
use Rattle.ygg_oblige_parts.proofs.digits.complement.Goals as goal

pub make-requires : goal.make-requires
make-requires g c = stands c.args.bank.now c.args.a 1 c.requires

pub returns-clause-width : goal.returns-clause-width
returns-clause-width g c =
    subst (λ w. IfOk c.make.result (λ (id : Id). HasWidth c.make.new.self id w)) (width_is c.args.bank.now c.args.a 1 c.requires) c.make.ensures.width
