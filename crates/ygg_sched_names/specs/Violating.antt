-- The schedules of a file's obligations that violate them.
use Rattle.std.specs.Prelude.{◌≡◌, ℕ, ◌<◌, ◌^◌, slice_get, Some, IfSome}
use Rattle.ygg_syntax.specs.declared.tree.File.{File}
use Rattle.ygg_replay.specs.ygg_meaning.Claims.{Claim, ClaimViolated, claims_of}
use Rattle.ygg_replay.specs.ygg_sched.declared.schedule.Schedule.{Schedule}
use Rattle.ygg_replay.specs.Shown.{meant}
use Rattle.ygg_oblige_schedule.specs.Fitted.{IsFitted}

module _ (f : File) (place : ℕ) where
  -- the schedule has what can be printed and read again of the obligation at the place, whose name it has, and violates it
  pub record IsViolating (x : Schedule) : Type 0 where
    pub claim : Claim
    pub there : slice_get (claims_of f) place ≡ Some claim
    pub fitted : IsFitted f place x
    pub bounded : IfSome x.stop (λ h. h.event < 2 ^ 64)
    pub violated : ClaimViolated claim (meant claim x)
