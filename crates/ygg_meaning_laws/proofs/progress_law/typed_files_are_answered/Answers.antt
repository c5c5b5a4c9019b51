use Rattle.ygg_meaning_laws.proofs.Derived.{derived_known}
use Rattle.ygg_meaning_laws.proofs.progress_law.typed_files_are_answered.Goals as goal

pub returns : goal.returns
returns c = λ f d t. (derived_known f d t).answered
