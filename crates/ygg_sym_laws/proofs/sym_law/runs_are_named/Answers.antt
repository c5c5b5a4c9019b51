use Rattle.ygg_sym_laws.proofs.FrontAnyLayer.{runs_are_named}
use Rattle.ygg_sym_laws.proofs.sym_law.runs_are_named.Goals as goal

pub returns : goal.returns
returns c = runs_are_named
