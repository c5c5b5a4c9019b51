use Rattle.ygg_sym_runs.proofs.FallsOnDisk.{falls_on_disk}
use Rattle.ygg_sym_runs.proofs.law.falls_on_disk.Goals as goal

pub returns : goal.returns
returns c = falls_on_disk
