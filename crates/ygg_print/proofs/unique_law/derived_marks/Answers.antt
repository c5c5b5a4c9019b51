use Rattle.ygg_print.proofs.AgainFiles.{left_out}
use Rattle.ygg_print.proofs.unique_law.derived_marks.Goals as goal

pub returns : goal.returns
returns c = left_out
