use Rattle.ygg_print.proofs.Relexed.{relexed}
use Rattle.ygg_yard.proofs.Read.{is_read}
use Rattle.ygg_yard.proofs.read_law.made_is_read.Goals as goal

pub returns : goal.returns
returns c = is_read relexed
