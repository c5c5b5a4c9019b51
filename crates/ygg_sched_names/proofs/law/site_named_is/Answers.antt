use Rattle.ygg_sched_names.proofs.Asked as asked
use Rattle.ygg_sched_names.proofs.law.site_named_is.Goals as goal

pub returns : goal.returns
returns c = asked.site_named_is
