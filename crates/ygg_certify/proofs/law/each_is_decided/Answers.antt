use Rattle.ygg_certify.proofs.Deciding.{each_is_decided}
use Rattle.ygg_certify.proofs.law.each_is_decided.Goals as goal

pub returns : goal.returns
returns c = each_is_decided
