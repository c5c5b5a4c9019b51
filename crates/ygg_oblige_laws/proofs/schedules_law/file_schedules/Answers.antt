use Rattle.ygg_oblige_laws.proofs.ScheduleLayers.{file_named}
use Rattle.ygg_oblige_laws.proofs.schedules_law.file_schedules.Goals as goal

pub returns : goal.returns
returns c = file_named
