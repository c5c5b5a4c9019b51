use Rattle.ygg_dimacs.proofs.Again.{again}
use Rattle.ygg_dimacs.proofs.law.printed_is_read.Goals as goal

pub returns : goal.returns
returns c = again
