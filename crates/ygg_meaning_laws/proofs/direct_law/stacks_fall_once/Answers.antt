-- It is the lemma.
use Rattle.ygg_meaning_laws.proofs.StackFallen.{stacks_fall_once}
use Rattle.ygg_meaning_laws.proofs.direct_law.stacks_fall_once.Goals as goal

pub returns : goal.returns
returns c = stacks_fall_once
