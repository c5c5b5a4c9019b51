use Rattle.ygg_sym_laws.proofs.NamedRuns.{losses}
use Rattle.ygg_sym_laws.proofs.law.loss_named.Goals as goal

pub returns : goal.returns
returns c = losses
