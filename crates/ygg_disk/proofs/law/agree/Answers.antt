use Rattle.ygg_disk.proofs.Matching.{from_start}
use Rattle.ygg_disk.proofs.law.agree.Goals as goal

pub returns : goal.returns
returns c = from_start
