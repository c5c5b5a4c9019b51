use Rattle.ygg_blast.specs.ygg_bank_proofs_Widths.{stands}
use Rattle.ygg_decide.proofs.deciding.decide_in.Goals as goal

pub clauses_of-requires : goal.clauses_of-requires
clauses_of-requires c = stands c.args.bank.now c.args.term 1 c.requires.width
