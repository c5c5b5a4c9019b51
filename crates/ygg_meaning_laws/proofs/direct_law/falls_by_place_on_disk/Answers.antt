-- It is the lemma.
use Rattle.ygg_meaning_laws.proofs.FallPlacing.{falls_by_place_on_disk}
use Rattle.ygg_meaning_laws.proofs.direct_law.falls_by_place_on_disk.Goals as goal

pub returns : goal.returns
returns c = falls_by_place_on_disk
