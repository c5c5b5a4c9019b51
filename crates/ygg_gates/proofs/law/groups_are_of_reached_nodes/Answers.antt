use Rattle.ygg_gates.proofs.Reached.{tests_reaching}
use Rattle.ygg_gates.proofs.law.groups_are_of_reached_nodes.Goals as goal

pub returns : goal.returns
returns c = tests_reaching
