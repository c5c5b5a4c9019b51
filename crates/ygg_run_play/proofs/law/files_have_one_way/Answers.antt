-- It is the lemma.
use Rattle.ygg_run_play.proofs.OneText.{files_have_one_way}
use Rattle.ygg_run_play.proofs.law.files_have_one_way.Goals as goal

pub returns : goal.returns
returns c = files_have_one_way
