use Rattle.ygg_disk.proofs.Counting.{picks_are_counted}
use Rattle.ygg_disk.proofs.law.picks_are_counted.Goals as goal

pub returns : goal.returns
returns c = picks_are_counted
