use Rattle.ygg_machine.proofs.Counting.{whole_are_counted}
use Rattle.ygg_machine.proofs.law.whole_calls_are_counted.Goals as goal

pub returns : goal.returns
returns g c = record { counted = whole_are_counted g.G.Ground.means }
