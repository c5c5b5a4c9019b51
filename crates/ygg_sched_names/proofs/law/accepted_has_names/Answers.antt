use Rattle.ygg_sched_names.proofs.Accepted as accepted
use Rattle.ygg_sched_names.proofs.law.accepted_has_names.Goals as goal

pub returns : goal.returns
returns c = accepted.accepted_has_names
