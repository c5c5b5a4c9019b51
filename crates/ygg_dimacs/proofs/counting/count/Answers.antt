use Rattle.std.proofs.Common.{refl}
use Rattle.ygg_dimacs.proofs.Gatewise.{all_counted}
use Rattle.ygg_dimacs.proofs.counting.count.Goals as goal

pub returns : goal.returns
returns c = all_counted c.args.gates.now c.args.goal _ c.in_ok-all.all _ refl refl c.in_ok-all.ensures refl c.max.ensures
