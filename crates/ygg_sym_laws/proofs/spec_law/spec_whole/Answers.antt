use Rattle.ygg_sym_laws.proofs.AnyLayer.{spec_whole}
use Rattle.ygg_sym_laws.proofs.spec_law.spec_whole.Goals as goal

pub returns : goal.returns
returns c = spec_whole
