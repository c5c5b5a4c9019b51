-- Schedules that have the same parts, with values of the same shapes.
use Rattle.std.specs.Prelude.{◌≡◌, ◌<◌, ◌^◌, List, [], map, All, Option, IfSome, None}
use Rattle.ygg_value.specs.Shapes.{IsValue, shape_of}
use Rattle.ygg_value.specs.declared.row.Value.{Value}
use Rattle.ygg_replay.specs.ygg_sched.declared.schedule.Halt.{Halt}
use Rattle.ygg_replay.specs.ygg_sched.declared.schedule.Schedule.{Schedule}

-- these values have the shapes of those, in order
pub record AreLike (those these : List Value) : Type 0 where
  pub shapes : map shape_of these ≡ map shape_of those
  pub values : All IsValue these

-- the number in a stop can be printed and read again
abbrev pub IsBounded : Option Halt → Type 0
IsBounded stop = IfSome stop (λ h. h.event < 2 ^ 64)

-- A schedule has the same name and values of the same shapes as another; it has no stop where that has none, and no picks of a recovery where that has none.
pub record IsLike (that this : Schedule) : Type 0 where
  pub name : this.name ≡ that.name
  pub state : AreLike that.state this.state
  pub memory : AreLike that.memory this.memory
  pub low : AreLike that.low this.low
  pub args : AreLike that.args this.args
  pub stop : that.stop ≡ None → this.stop ≡ None
  pub bounded : IsBounded that.stop → IsBounded this.stop
  pub wake : that.wake ≡ [] → this.wake ≡ []
  pub other : that.other ≡ [] → this.other ≡ []
