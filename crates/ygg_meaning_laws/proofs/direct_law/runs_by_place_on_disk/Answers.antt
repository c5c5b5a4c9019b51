-- It is the lemma.
use Rattle.ygg_meaning_laws.proofs.RunPlacing.{runs_by_place_on_disk}
use Rattle.ygg_meaning_laws.proofs.direct_law.runs_by_place_on_disk.Goals as goal

pub returns : goal.returns
returns c = runs_by_place_on_disk
