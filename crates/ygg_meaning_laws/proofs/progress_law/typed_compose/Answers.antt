use Rattle.ygg_meaning_laws.proofs.Derived.{typed_compose}
use Rattle.ygg_meaning_laws.proofs.progress_law.typed_compose.Goals as goal

pub returns : goal.returns
returns c = typed_compose
