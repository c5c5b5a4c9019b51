use Rattle.ygg_meaning.specs.Refines.{machine_below}
use Rattle.ygg_meaning.proofs.Replaying.{replay_ends}
use Rattle.ygg_meaning.proofs.law.replay_ends.Goals as goal

pub returns : goal.returns
returns c below L = replay_ends L (machine_below below)
