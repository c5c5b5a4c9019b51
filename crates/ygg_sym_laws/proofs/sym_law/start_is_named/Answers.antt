use Rattle.ygg_sym_laws.proofs.Others.{start_named}
use Rattle.ygg_sym_laws.proofs.sym_law.start_is_named.Goals as goal

pub returns : goal.returns
returns c = start_named
