use Rattle.ygg_sym_laws.proofs.Start.{disk_start}
use Rattle.ygg_sym_laws.proofs.disk_law.disk_start.Goals as goal

pub returns : goal.returns
returns c = disk_start
