use Rattle.ygg_sym_laws.proofs.DiskFalls.{disk_falls}
use Rattle.ygg_sym_laws.proofs.disk_law.disk_falls.Goals as goal

pub returns : goal.returns
returns c = disk_falls
