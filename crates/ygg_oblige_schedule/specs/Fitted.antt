-- What the schedule that an environment names has for its obligation: what can be printed and read again.
use Rattle.std.specs.Prelude.{◌≡◌, ℕ, false, slice_get, Some, None}
use Rattle.ygg_syntax.specs.declared.tree.File.{File}
use Rattle.ygg_replay.specs.ygg_meaning.Obligations.{name_of}
use Rattle.ygg_replay.specs.ygg_meaning.Claims.{Claim, claims_of}
use Rattle.ygg_replay.specs.ygg_sched.Fitting.{AreOfTypes, OnlyIf}
use Rattle.ygg_replay.specs.ygg_sched.Laws.{asked_at, asked_of}
use Rattle.ygg_replay.specs.ygg_sched.Sites.{
  Site,
  argument_lines,
  has_other,
  has_stop,
  has_wake,
  low_lines,
  memory_lines,
  sites_of,
  state_lines,
}
use Rattle.ygg_replay.specs.ygg_sched.declared.schedule.Schedule.{Schedule}

-- The schedule has a value of its type for each variable that has a line, and nothing for which there is no line. A stop may be missing where there is to
-- be a line of it: where the run comes to none that the environment sets.
pub record FitsAt (s : Site) (x : Schedule) : Type 0 where
  pub state : AreOfTypes (state_lines s) x.state
  pub memory : AreOfTypes (memory_lines s) x.memory
  pub low : AreOfTypes (low_lines s) x.low
  pub args : AreOfTypes (argument_lines s) x.args
  pub stop : has_stop s.obligation ≡ false → x.stop ≡ None
  pub wake : OnlyIf (has_wake s.obligation) x.wake
  pub other : OnlyIf (has_other s.obligation) x.other

-- so it is for the obligation at a place of the file's list, whose name it has
pub record IsFitted (f : File) (place : ℕ) (x : Schedule) : Type 0 where
  pub site : Site
  pub there : slice_get (sites_of f) place ≡ Some site
  pub claim : Claim
  pub claim_there : slice_get (claims_of f) place ≡ Some claim
  pub asked : asked_at site ≡ asked_of claim
  pub name : x.name ≡ name_of site.layer.name.text site.obligation
  pub fits : FitsAt site x
