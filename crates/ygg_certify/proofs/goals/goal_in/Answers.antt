use Rattle.ygg_certify.specs.ygg_bank_proofs_Widths.{stands}
use Rattle.ygg_certify.proofs.goals.goal_in.Goals as goal

pub put_clauses-requires : goal.put_clauses-requires
put_clauses-requires c = stands c.args.bank.now c.args.o.now.term 1 c.requires
