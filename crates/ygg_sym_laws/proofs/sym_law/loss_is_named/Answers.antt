use Rattle.ygg_sym_laws.proofs.FrontAnyLayer.{loss_is_named}
use Rattle.ygg_sym_laws.proofs.sym_law.loss_is_named.Goals as goal

pub returns : goal.returns
returns c = loss_is_named
