use Rattle.ygg_print.proofs.Relexed.{relexed}
use Rattle.ygg_print.proofs.tree_law.laid_out.Goals as goal

pub returns : goal.returns
returns c marks are = relexed marks are
