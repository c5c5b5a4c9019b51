-- It is the lemma.
use Rattle.ygg_oblige_laws.proofs.Whole.{file_terms_mean}
use Rattle.ygg_oblige_laws.proofs.law.file_terms_mean.Goals as goal

pub returns : goal.returns
returns c = file_terms_mean
