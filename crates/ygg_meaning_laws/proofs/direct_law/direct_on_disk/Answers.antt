-- It is the lemma.
use Rattle.ygg_meaning_laws.proofs.DirectTyped.{direct_on_disk}
use Rattle.ygg_meaning_laws.proofs.direct_law.direct_on_disk.Goals as goal

pub returns : goal.returns
returns c = direct_on_disk
