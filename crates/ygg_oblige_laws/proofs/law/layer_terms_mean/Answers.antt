-- It is the lemma.
use Rattle.ygg_oblige_laws.proofs.Whole.{layer_terms_mean}
use Rattle.ygg_oblige_laws.proofs.law.layer_terms_mean.Goals as goal

pub returns : goal.returns
returns c = layer_terms_mean
