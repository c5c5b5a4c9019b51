use Rattle.ygg_meaning.proofs.Fallen.{run_history}
use Rattle.ygg_meaning.proofs.history_law.left_goes_on.Goals as goal

pub returns : goal.returns
returns c = run_history
