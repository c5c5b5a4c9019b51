use Rattle.ygg_oblige_laws.proofs.ScheduleLayers.{layer_named}
use Rattle.ygg_oblige_laws.proofs.schedules_law.layer_schedules.Goals as goal

pub returns : goal.returns
returns c = layer_named
