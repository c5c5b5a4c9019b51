use Rattle.ygg_sched.proofs.Standing as standing
use Rattle.ygg_sched.proofs.law.sites_are_claims.Goals as goal

pub returns : goal.returns
returns c = standing.sites_are_claims
