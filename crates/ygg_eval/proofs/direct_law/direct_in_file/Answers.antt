-- It is the lemma.
use Rattle.ygg_eval.proofs.InFile.{direct_in_file}
use Rattle.ygg_eval.proofs.direct_law.direct_in_file.Goals as goal

pub returns : goal.returns
returns c = direct_in_file
