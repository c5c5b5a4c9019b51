use Rattle.ygg_sym_laws.proofs.FrontAnyLayer.{falls_are_named}
use Rattle.ygg_sym_laws.proofs.sym_law.falls_are_named.Goals as goal

pub returns : goal.returns
returns c = falls_are_named
