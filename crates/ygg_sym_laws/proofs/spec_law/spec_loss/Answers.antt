use Rattle.ygg_sym_laws.proofs.AnyLayer.{spec_loss}
use Rattle.ygg_sym_laws.proofs.spec_law.spec_loss.Goals as goal

pub returns : goal.returns
returns c = spec_loss
