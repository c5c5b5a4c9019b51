-- It is the lemma.
use Rattle.ygg_meaning_laws.proofs.StackActed.{stacks_directly}
use Rattle.ygg_meaning_laws.proofs.direct_law.stacks_directly.Goals as goal

pub returns : goal.returns
returns c = stacks_directly
