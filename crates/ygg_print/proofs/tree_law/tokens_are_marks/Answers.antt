use Rattle.ygg_print.proofs.Marks.{tokens_are}
use Rattle.ygg_print.proofs.tree_law.tokens_are_marks.Goals as goal

pub returns : goal.returns
returns c text found is = tokens_are text found is
