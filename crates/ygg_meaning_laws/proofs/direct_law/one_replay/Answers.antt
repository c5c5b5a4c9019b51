-- It is the lemma.
use Rattle.ygg_meaning_laws.proofs.OneReplay.{one_replay}
use Rattle.ygg_meaning_laws.proofs.direct_law.one_replay.Goals as goal

pub returns : goal.returns
returns c = one_replay
