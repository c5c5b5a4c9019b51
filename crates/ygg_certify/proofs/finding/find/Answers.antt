use Rattle.std.proofs.Common.{◌<◌, List, length, subst, sym}
use Rattle.ygg_decide.specs.ygg_bank.declared.node.Node.{Node}
use Rattle.ygg_decide.specs.ygg_bank_proofs_Widths.{stands}
use Rattle.ygg_certify.proofs.finding.find.Goals as goal

pub found-requires-clause-stands : goal.found-requires-clause-stands
found-requires-clause-stands g c =
    subst (λ (nodes : List Node). c.args.term.0 < length nodes) (sym c.decide.ensures.same) (stands c.args.bank.now c.args.term 1 c.requires.width)
