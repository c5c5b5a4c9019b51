use Rattle.ygg_read.proofs.LayerClaims.{file_complete}
use Rattle.ygg_read.proofs.law.complete.Goals as goal

pub returns : goal.returns
returns c = file_complete
