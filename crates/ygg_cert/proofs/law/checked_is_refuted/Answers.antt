use Rattle.ygg_cert.proofs.Worth.{checked_is_refuted}
use Rattle.ygg_cert.proofs.law.checked_is_refuted.Goals as goal

pub returns : goal.returns
returns c = checked_is_refuted
