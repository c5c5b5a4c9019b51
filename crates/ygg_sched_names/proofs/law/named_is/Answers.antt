use Rattle.ygg_sched_names.proofs.Asked as asked
use Rattle.ygg_sched_names.proofs.law.named_is.Goals as goal

pub returns : goal.returns
returns c = asked.named_is
