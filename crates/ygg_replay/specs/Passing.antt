-- Whether a conclusion holds with a list of the specification's picks, and the first such list.
use Rattle.std.specs.Prelude.{◌≡◌, ℕ, Bool, true, false, IsTrue, length, Some, unwrap_or}
use Rattle.std.specs.Option.{option_map}
use Rattle.ygg_sched.specs.ygg_meaning.Progress.{Answer}
use Rattle.ygg_sched.specs.ygg_meaning.Machine.{Picks}
use Rattle.ygg_sched.specs.ygg_meaning.Obligations.{Obligation, Init, CallOf, CutOf, TickOf, CutTickOf, Idle, Again}
use Rattle.ygg_sched.specs.ygg_meaning.Violates.{most, passes, related_after, same_answer, spec_after}
use Rattle.ygg_replay.specs.declared.site.ReplaySite.{ReplaySite}
use Rattle.ygg_sched.specs.declared.case.Case.{Case}
use Rattle.ygg_sched.specs.declared.case.CaseKind.{CaseKind}
use Rattle.ygg_sched.specs.declared.case.CaseKind.TheVariants as kind
use Rattle.ygg_replay.specs.declared.conclusion.Trial.{Trial}
use Rattle.ygg_replay.specs.Steps.{meant_at}
use Rattle.ygg_replay.specs.Ends.{end_at, EndFits}
use Rattle.ygg_sched.specs.Cases.{obligation_at}
use Rattle.ygg_replay.specs.Schedules.{schedule_fits}
use Rattle.ygg_replay.specs.Sites.{IsHere, closed_in}

-- the obligation that is asked
abbrev pub IsOf : ReplaySite → Case → Obligation → Type 0
IsOf s which o = obligation_at s.layer.now which.kind which.number ≡ Some o

-- whether the conclusion holds with these picks
abbrev pub passing : ReplaySite → Trial → Obligation → Picks → Bool
passing s t o picks = passes (closed_in s) o (end_at s t.end.now) (spec_after (closed_in s) o (meant_at s t.schedule.now) picks)

-- whether the specification's step with these picks gives variables that are related to the end of the runs, and the answer that an operation's run gave
abbrev pub agreeing : ReplaySite → Trial → Obligation → Picks → Bool
agreeing s t (CallOf o) picks = passing s t (CallOf o) picks
agreeing s t Init picks = related_after (closed_in s) (end_at s t.end.now).to (spec_after (closed_in s) Init (meant_at s t.schedule.now) picks)
agreeing s t (CutOf o) picks = related_after (closed_in s) (end_at s t.end.now).to (spec_after (closed_in s) (CutOf o) (meant_at s t.schedule.now) picks)
agreeing s t (TickOf k) picks = related_after (closed_in s) (end_at s t.end.now).to (spec_after (closed_in s) (TickOf k) (meant_at s t.schedule.now) picks)
agreeing s t (CutTickOf k) picks =
    related_after (closed_in s) (end_at s t.end.now).to (spec_after (closed_in s) (CutTickOf k) (meant_at s t.schedule.now) picks)
agreeing s t Idle picks = related_after (closed_in s) (end_at s t.end.now).to (spec_after (closed_in s) Idle (meant_at s t.schedule.now) picks)
agreeing s t Again picks = related_after (closed_in s) (end_at s t.end.now).to (spec_after (closed_in s) Again (meant_at s t.schedule.now) picks)

-- whether two answers are the same, where the obligation speaks of an answer
abbrev pub answers_for : CaseKind → Answer → Answer → Bool
answers_for kind.Init y z = true
answers_for kind.Call y z = same_answer y z
answers_for kind.Cut y z = true
answers_for kind.Tick y z = true
answers_for kind.CutTick y z = true
answers_for kind.Idle y z = true
answers_for kind.Again y z = true

-- the same of the obligation that is asked
abbrev pub passing_asked : ReplaySite → Trial → Picks → Bool
passing_asked s t picks = unwrap_or (option_map (λ o. passing s t o picks) (obligation_at s.layer.now t.case.kind t.case.number)) false

-- how many picks its step takes at most
abbrev pub most_asked : ReplaySite → Trial → ℕ
most_asked s t = unwrap_or (option_map (most (closed_in s)) (obligation_at s.layer.now t.case.kind t.case.number)) 0

-- the conclusion may be asked: the obligation is one of the layer, the schedule has the declared shapes, and so has the end of the runs
pub record CanConclude (s : ReplaySite) (t : Trial) : Type 0 where
  pub obligation : Obligation
  pub is : IsOf s t.case obligation
  pub fit : IsTrue (schedule_fits s.typed.now.file s.place s.layer.now t.schedule.now obligation)
  pub end_fits : EndFits s t.end.now

-- it may be asked of a layer that stands at its place
pub record CanTry (s : ReplaySite) (t : Trial) : Type 0 where
  pub here : IsHere s
  pub can : CanConclude s t

-- with as many picks as the specification's step takes at most
abbrev pub AreAll : ReplaySite → Trial → Picks → Type 0
AreAll s t picks = (o : Obligation) → IsOf s t.case o → length picks ≡ most (closed_in s) o
