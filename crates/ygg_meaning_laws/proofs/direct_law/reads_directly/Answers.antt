-- It is the lemma.
use Rattle.ygg_meaning_laws.proofs.DirectTyped.{reads_directly}
use Rattle.ygg_meaning_laws.proofs.direct_law.reads_directly.Goals as goal

pub returns : goal.returns
returns c = reads_directly
