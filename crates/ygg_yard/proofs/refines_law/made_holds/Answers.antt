use Rattle.ygg_yard.proofs.Holding.{all_hold}
use Rattle.ygg_yard.proofs.refines_law.made_holds.Goals as goal

pub returns : goal.returns
returns c = all_hold
