use Rattle.ygg_sym_runs.proofs.OnDisk.{runs_on_disk}
use Rattle.ygg_sym_runs.proofs.law.runs_on_disk.Goals as goal

pub returns : goal.returns
returns c = runs_on_disk
