use Rattle.ygg_meaning.proofs.Monotone.{layered_under}
use Rattle.ygg_meaning.proofs.history_law.monotone.Goals as goal

pub returns : goal.returns
returns c disk L lower U = layered_under _ _ _ U L
