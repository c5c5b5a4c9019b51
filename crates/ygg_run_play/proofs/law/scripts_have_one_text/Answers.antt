-- It is the lemma.
use Rattle.ygg_run_play.proofs.OneText.{scripts_have_one_text}
use Rattle.ygg_run_play.proofs.law.scripts_have_one_text.Goals as goal

pub returns : goal.returns
returns c = scripts_have_one_text
