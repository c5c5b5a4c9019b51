use Rattle.ygg_print.proofs.AgainFiles.{derives_as}
use Rattle.ygg_print.proofs.unique_law.printed_derives.Goals as goal

pub returns : goal.returns
returns c = derives_as
