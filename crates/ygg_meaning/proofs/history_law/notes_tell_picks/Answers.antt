use Rattle.ygg_meaning.specs.DiskMachine.{disk_store}
use Rattle.ygg_meaning.proofs.Stores.{forget, find}
use Rattle.ygg_meaning.proofs.history_law.notes_tell_picks.Goals as goal

pub returns-clause-forgotten : goal.returns-clause-forgotten
returns-clause-forgotten c d layers = forget (disk_store d) layers

pub returns-clause-found : goal.returns-clause-found
returns-clause-found c d layers = find (disk_store d) layers
