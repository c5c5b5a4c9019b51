use Rattle.ygg_sym_laws.proofs.NamedRuns.{whole_runs}
use Rattle.ygg_sym_laws.proofs.law.runs_named.Goals as goal

pub returns : goal.returns
returns c = whole_runs
