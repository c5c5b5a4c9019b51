use Rattle.ygg_top.proofs.Once as once
use Rattle.ygg_top.proofs.law.play_ends_one_way.Goals as goal

pub returns : goal.returns
returns c = once.play_ends_one_way
