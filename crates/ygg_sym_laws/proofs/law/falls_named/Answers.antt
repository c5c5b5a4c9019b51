use Rattle.ygg_sym_laws.proofs.NamedRuns.{cut_runs}
use Rattle.ygg_sym_laws.proofs.law.falls_named.Goals as goal

pub returns : goal.returns
returns c = cut_runs
