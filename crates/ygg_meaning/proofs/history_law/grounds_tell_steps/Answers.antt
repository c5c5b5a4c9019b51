use Rattle.ygg_meaning.proofs.Stores.{told_steps}
use Rattle.ygg_meaning.proofs.history_law.grounds_tell_steps.Goals as goal

pub returns : goal.returns
returns row c f = told_steps _ f
