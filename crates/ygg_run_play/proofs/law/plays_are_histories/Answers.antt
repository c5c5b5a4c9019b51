-- It is the lemma.
use Rattle.ygg_run_play.proofs.Histories.{plays_are_histories}
use Rattle.ygg_run_play.proofs.law.plays_are_histories.Goals as goal

pub returns : goal.returns
returns c = plays_are_histories
