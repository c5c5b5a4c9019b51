-- It is the lemma.
use Rattle.ygg_meaning_laws.proofs.Choosing.{choices_by_place}
use Rattle.ygg_meaning_laws.proofs.direct_law.choices_by_place.Goals as goal

pub returns : goal.returns
returns c = choices_by_place
