use Rattle.ygg_sym_runs.proofs.MadeInputs.{inputs_on_disk}
use Rattle.ygg_sym_runs.proofs.law.inputs_on_disk.Goals as goal

pub returns : goal.returns
returns c = inputs_on_disk
