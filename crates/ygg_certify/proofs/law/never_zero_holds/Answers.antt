use Rattle.ygg_certify.proofs.Deciding.{never_zero_holds}
use Rattle.ygg_certify.proofs.law.never_zero_holds.Goals as goal

pub returns : goal.returns
returns c = never_zero_holds
