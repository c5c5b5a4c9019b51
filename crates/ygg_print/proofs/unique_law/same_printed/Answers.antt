use Rattle.ygg_print.proofs.Printed as printed
use Rattle.ygg_print.proofs.unique_law.same_printed.Goals as goal

pub returns : goal.returns
returns c = printed.same_printed
