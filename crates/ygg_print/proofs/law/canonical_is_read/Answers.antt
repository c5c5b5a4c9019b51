use Rattle.ygg_print.proofs.Reread.{is_read}
use Rattle.ygg_print.proofs.law.canonical_is_read.Goals as goal

pub returns : goal.returns
returns c = is_read
