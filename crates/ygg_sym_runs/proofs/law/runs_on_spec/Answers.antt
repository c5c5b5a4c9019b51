use Rattle.ygg_sym_runs.proofs.OnSpec.{runs_on_spec}
use Rattle.ygg_sym_runs.proofs.law.runs_on_spec.Goals as goal

pub returns : goal.returns
returns c = runs_on_spec
