use Rattle.ygg_sym_laws.proofs.Loss.{disk_loss}
use Rattle.ygg_sym_laws.proofs.disk_law.disk_loss.Goals as goal

pub returns : goal.returns
returns c = disk_loss
