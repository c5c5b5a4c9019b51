use Rattle.ygg_eval.proofs.Steps.{runs_are_steps}
use Rattle.ygg_eval.proofs.law.runs_are_steps.Goals as goal

pub returns : goal.returns
returns g c = runs_are_steps g.W.Lower.means g.met.W.Lower.keeps
