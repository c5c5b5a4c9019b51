use Rattle.ygg_sched_names.proofs.Accepted as accepted
use Rattle.ygg_sched_names.proofs.law.printed_shows.Goals as goal

pub returns : goal.returns
returns c = accepted.printed_shows
