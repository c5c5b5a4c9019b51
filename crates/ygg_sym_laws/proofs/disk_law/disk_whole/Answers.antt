use Rattle.ygg_sym_laws.proofs.DiskWhole.{disk_whole}
use Rattle.ygg_sym_laws.proofs.disk_law.disk_whole.Goals as goal

pub returns : goal.returns
returns c = disk_whole
