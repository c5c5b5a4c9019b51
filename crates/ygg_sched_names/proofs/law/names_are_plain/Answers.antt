use Rattle.ygg_sched_names.proofs.Accepted as accepted
use Rattle.ygg_sched_names.proofs.law.names_are_plain.Goals as goal

pub returns : goal.returns
returns c = accepted.names_are_plain
