use Rattle.ygg_value.proofs.Results.{apply_to-IsWord}
use Rattle.ygg_value.proofs.law.results_are_words.Goals as goal

pub returns : goal.returns
returns c = apply_to-IsWord
