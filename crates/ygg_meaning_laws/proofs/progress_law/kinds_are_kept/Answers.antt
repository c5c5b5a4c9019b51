use Rattle.ygg_meaning_laws.proofs.Derived.{derived_kept}
use Rattle.ygg_meaning_laws.proofs.progress_law.kinds_are_kept.Goals as goal

pub returns : goal.returns
returns c = derived_kept
