use Rattle.ygg_replay.proofs.Once as once
use Rattle.ygg_replay.proofs.law.refuted_exactly.Goals as goal

pub returns : goal.returns
returns c = once.refuted_exactly
