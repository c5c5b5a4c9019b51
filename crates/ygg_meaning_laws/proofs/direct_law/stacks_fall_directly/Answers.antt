-- It is the lemma.
use Rattle.ygg_meaning_laws.proofs.StackFallen.{stacks_fall_directly}
use Rattle.ygg_meaning_laws.proofs.direct_law.stacks_fall_directly.Goals as goal

pub returns : goal.returns
returns c = stacks_fall_directly
