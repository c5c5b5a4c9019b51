use Rattle.ygg_sym_laws.proofs.AnyLayer.{spec_start}
use Rattle.ygg_sym_laws.proofs.spec_law.spec_start.Goals as goal

pub returns : goal.returns
returns c = spec_start
