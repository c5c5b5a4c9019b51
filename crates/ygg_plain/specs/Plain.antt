-- A schedule in place of another.
use Rattle.std.specs.Prelude.{◌≡◌, ℕ, List, slice_get, Some}
use Rattle.ygg_syntax.specs.declared.tree.File.{File}
use Rattle.ygg_rules.specs.declared.rule.RuleKind.{RuleKind}
use Rattle.ygg_oblige.specs.ygg_bank.Values.{Inputs}
use Rattle.ygg_replay.specs.ygg_meaning.Claims.{Claim, ClaimViolated, claims_of}
use Rattle.ygg_replay.specs.ygg_meaning.Obligations as meaning
use Rattle.ygg_replay.specs.ygg_sched.declared.case.Case.{Case}
use Rattle.ygg_replay.specs.ygg_sched.declared.schedule.Schedule.{Schedule}
use Rattle.ygg_replay.specs.ygg_sched.Sites.{Site}
use Rattle.ygg_replay.specs.declared.schedule.Replayed.TheVariants.{Shows}
use Rattle.ygg_replay.specs.Schedules.{IsAsked, IsShown}
use Rattle.ygg_oblige_schedule.specs.Fitted.{FitsAt}
use Rattle.ygg_oblige_reading.specs.Meant.{Names, meant}
use Rattle.ygg_plain.specs.Like.{IsBounded}

-- the schedule violates the obligation
abbrev pub IsViolated : File → Case → Schedule → Type 0
IsViolated f which x = IsShown f which x Shows

-- A schedule may stand in another's place: it has the same name, it can be replayed, printed and read again where that can, and it violates the obligation where
-- that does.
pub record IsPlainOf (f : File) (which : Case) (that this : Schedule) : Type 0 where
  pub name : this.name ≡ that.name
  pub asked : IsAsked f which that → IsAsked f which this
  pub fits : (s : Site) → FitsAt s that → FitsAt s this
  pub bounded : IsBounded that.stop → IsBounded this.stop
  pub violated : IsViolated f which that → IsViolated f which this

-- the schedule violates the obligation at a place where the one that an environment names for it does
pub record ViolatesAsNamed (kinds : List RuleKind) (f : File) (inputs : Inputs) (place : ℕ) (x : Schedule) : Type 0 where
  pub named : meaning.Schedule
  pub is_named : Names kinds f inputs place named
  pub violates : (c : Claim) → slice_get (claims_of f) place ≡ Some c → ClaimViolated c named → ClaimViolated c (meant c x)
