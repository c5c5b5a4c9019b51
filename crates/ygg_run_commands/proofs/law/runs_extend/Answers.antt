use Rattle.ygg_run_commands.proofs.Extended.{runs_extend}
use Rattle.ygg_run_commands.proofs.law.runs_extend.Goals as goal

pub returns : goal.returns
returns g c = runs_extend g.G.Ground.means c.left_goes_on.ensures c.typed_histories.ensures
