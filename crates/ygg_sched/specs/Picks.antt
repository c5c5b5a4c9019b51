-- The picks of a schedule's runs.
use Rattle.std.specs.Prelude.{Bool, List}
use Rattle.ygg_sched.specs.declared.schedule.Run.{Run}
use Rattle.ygg_sched.specs.declared.schedule.Run.TheVariants as run
use Rattle.ygg_sched.specs.declared.schedule.Schedule.{Schedule}

-- the picks of a run
abbrev pub picks_of : Run → Schedule → List Bool
picks_of run.Picks x = x.picks
picks_of run.Wake x = x.wake
picks_of run.Other x = x.other
