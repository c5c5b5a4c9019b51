use Rattle.ygg_read.proofs.TakenWhole.{all_claims}
use Rattle.ygg_read.proofs.expression_law.complete.Goals as goal

pub returns : goal.returns
returns c = λ e. (all_claims e).claims
