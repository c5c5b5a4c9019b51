use Rattle.ygg_cert.proofs.Printed.{printed_is_checked}
use Rattle.ygg_cert.proofs.law.printed_is_checked.Goals as goal

pub returns : goal.returns
returns c = printed_is_checked
