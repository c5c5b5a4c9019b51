use Rattle.ygg_meaning.proofs.Fallen.{left_is}
use Rattle.ygg_meaning.proofs.history_law.left_is_rows.Goals as goal

pub returns : goal.returns
returns c = left_is
