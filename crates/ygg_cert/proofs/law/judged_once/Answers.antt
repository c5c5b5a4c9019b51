use Rattle.ygg_cert.proofs.Once.{judged_once}
use Rattle.ygg_cert.proofs.law.judged_once.Goals as goal

pub returns : goal.returns
returns c = judged_once
