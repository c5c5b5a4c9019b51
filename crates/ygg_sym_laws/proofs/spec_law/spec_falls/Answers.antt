use Rattle.ygg_sym_laws.proofs.AnyLayer.{spec_falls}
use Rattle.ygg_sym_laws.proofs.spec_law.spec_falls.Goals as goal

pub returns : goal.returns
returns c = spec_falls
