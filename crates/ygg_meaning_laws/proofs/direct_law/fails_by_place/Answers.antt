-- It is the lemma.
use Rattle.ygg_meaning_laws.proofs.Failing.{fails_by_place}
use Rattle.ygg_meaning_laws.proofs.direct_law.fails_by_place.Goals as goal

pub returns : goal.returns
returns c = fails_by_place
