-- How steps of the layer's own specification end.
use Rattle.std.specs.Prelude.{◌≡◌, ℕ, suc, List, length, slice_get, Option, Some}
use Rattle.ygg_value.specs.declared.row.Value.{Value}
use Rattle.ygg_syntax.specs.declared.tree.Operation.{Operation}
use Rattle.std.specs.Prelude.{IsTrue}
use Rattle.ygg_sched.specs.ygg_meaning.Shapes.{values_fit}
use Rattle.ygg_sched.specs.ygg_meaning.Progress.{Answer}
use Rattle.ygg_sched.specs.ygg_meaning.Spec.{Outcome, start_outcome}
use Rattle.ygg_eval.specs.Kept.{Kept}
use Rattle.ygg_replay.specs.declared.site.ReplaySite.{ReplaySite}
use Rattle.ygg_sched.specs.declared.case.CaseKind.{CaseKind}
use Rattle.ygg_sched.specs.declared.case.CaseKind.TheVariants as kind
use Rattle.ygg_sched.specs.declared.schedule.Schedule.{Schedule}
use Rattle.ygg_sched.specs.Cases.{obligation_at}
use Rattle.ygg_replay.specs.Schedules.{meant, schedule_fits}
use Rattle.ygg_sched.specs.ygg_meaning.Machine.{Picks}
use Rattle.ygg_sched.specs.ygg_meaning.Obligations.{Obligation, Init, CallOf, CutOf, TickOf, CutTickOf, Idle, Again}
use Rattle.ygg_sched.specs.ygg_meaning.Obligations as obligations
use Rattle.ygg_sched.specs.ygg_meaning.Violates.{most, spec_after}
use Rattle.ygg_replay.specs.Sites.{closed_in, vars_at, VarsFit}

-- the layer's specification with these values of its variables
abbrev pub own_machine : ReplaySite → List Value → Kept
own_machine s state = record { number = suc s.place; values = state }

-- the layer has this operation at the place, with arguments of its shapes
pub record HasOperation (s : ReplaySite) (number : ℕ) (args : List Value) : Type 0 where
  pub operation : Operation
  pub is : slice_get (s.layer.now).operations number ≡ Some operation
  pub fit : IsTrue (values_fit operation.arguments args)

-- a step has ended with this answer in these values of the variables
pub record EndsIn (s : ReplaySite) (out : Option Outcome) (answer : Answer) (state : List Value) : Type 0 where
  pub left : List Answer
  pub is : out ≡ Some (record { vars = vars_at s state; answer = answer; left = left })
  pub fit : VarsFit s state

-- a step has ended in these values of the variables, whatever its answer
abbrev pub EndsSomehow : ReplaySite → Option Outcome → List Value → Type 0
EndsSomehow s out state = (answer : Answer) × EndsIn s out answer state

-- the variables that the specification starts with
abbrev pub IsStart : ReplaySite → List Value → Type 0
IsStart s state = EndsSomehow s (start_outcome (closed_in s)) state

-- the schedule that is meant
abbrev pub meant_at : ReplaySite → Schedule → obligations.Schedule
meant_at s x = meant s.typed.now.file s.place s.layer.now x

-- a step of the specification is asked for, with as many picks as it takes at most
pub record CanStep (s : ReplaySite) (asked : CaseKind) (number : ℕ) (x : Schedule) (picks : Picks) : Type 0 where
  pub obligation : Obligation
  pub is : obligation_at s.layer.now asked number ≡ Some obligation
  pub fit : IsTrue (schedule_fits s.typed.now.file s.place s.layer.now x obligation)
  pub steps : ¬ (asked ≡ kind.Again)
  pub all : length picks ≡ most (closed_in s) obligation

-- the specification's step of an obligation has ended so; of answers an operation's alone is spoken of
abbrev pub StepEnds : ReplaySite → Obligation → Schedule → Picks → Answer → List Value → Type 0
StepEnds s Init x picks answer state = EndsSomehow s (spec_after (closed_in s) Init (meant_at s x) picks) state
StepEnds s (CallOf o) x picks answer state = EndsIn s (spec_after (closed_in s) (CallOf o) (meant_at s x) picks) answer state
StepEnds s (CutOf o) x picks answer state = EndsSomehow s (spec_after (closed_in s) (CutOf o) (meant_at s x) picks) state
StepEnds s (TickOf t) x picks answer state = EndsSomehow s (spec_after (closed_in s) (TickOf t) (meant_at s x) picks) state
StepEnds s (CutTickOf t) x picks answer state = EndsSomehow s (spec_after (closed_in s) (CutTickOf t) (meant_at s x) picks) state
StepEnds s Idle x picks answer state = EndsSomehow s (spec_after (closed_in s) Idle (meant_at s x) picks) state
StepEnds s Again x picks answer state = Unit {0}
