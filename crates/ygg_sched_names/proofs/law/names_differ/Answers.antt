use Rattle.ygg_sched_names.proofs.Asked as asked
use Rattle.ygg_sched_names.proofs.law.names_differ.Goals as goal

pub returns : goal.returns
returns c = asked.names_differ
