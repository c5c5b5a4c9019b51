use Rattle.ygg_replay.proofs.Once as once
use Rattle.ygg_replay.proofs.law.one_ending.Goals as goal

pub returns : goal.returns
returns c = once.one_ending
