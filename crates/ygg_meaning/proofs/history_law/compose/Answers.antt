use Rattle.ygg_meaning.specs.DiskMachine.{DiskMachine, disk_store}
use Rattle.ygg_meaning.proofs.Plain.{store_plain}
use Rattle.ygg_meaning.proofs.Composed.{compose}
use Rattle.ygg_meaning.proofs.history_law.compose.Goals as goal

pub returns : goal.returns
returns c disk = compose (DiskMachine disk) (store_plain (disk_store disk))
