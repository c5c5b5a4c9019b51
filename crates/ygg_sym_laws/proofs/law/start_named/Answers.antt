use Rattle.ygg_sym_laws.proofs.NamedRuns.{starts}
use Rattle.ygg_sym_laws.proofs.law.start_named.Goals as goal

pub returns : goal.returns
returns c = starts
