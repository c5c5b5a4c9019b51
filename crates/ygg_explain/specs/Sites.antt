-- What is told at a layer of a file.
use Rattle.std.specs.Prelude.{◌≡◌, ℕ, IsTrue, List, Some, slice_get}
use Rattle.ygg_syntax.specs.declared.tree.Layer.{Layer}
use Rattle.ygg_syntax.specs.declared.tree.File.{File}
use Rattle.ygg_replay.specs.ygg_meaning.Machine.{Picks}
use Rattle.ygg_replay.specs.ygg_meaning.Obligations.{Obligation}
use Rattle.ygg_replay.specs.ygg_meaning.Violates.{End, Meets, most}
use Rattle.ygg_eval.specs.Layers.{closed_at, machine_at}
use Rattle.ygg_replay.specs.Sites.{LowFits, MemoryFits, closed_in, machine_in, state_at}
use Rattle.ygg_replay.specs.Schedules.{meant, schedule_fits, shown_by}
use Rattle.ygg_replay.specs.Steps.{meant_at}
use Rattle.ygg_replay.specs.declared.schedule.Replayed.{Replayed}
use Rattle.ygg_replay.specs.declared.site.ReplaySite.{ReplaySite}
use Rattle.ygg_sched.specs.declared.case.Case.{Case}
use Rattle.ygg_sched.specs.declared.schedule.Schedule.{Schedule}
use Rattle.ygg_sched.specs.Cases.{obligation_at}
use Rattle.ygg_explain.specs.declared.allowed.Asking.{Asking}
use Rattle.ygg_explain.specs.Told.{AreChoices, AreFalseParts, IsChoice, IsTold, ToldOf, lists_by}

-- the obligation that is meant
abbrev pub IsOf : ReplaySite → Case → Obligation → Type 0
IsOf s which o = obligation_at s.layer.now which.kind which.number ≡ Some o

-- where the runs have ended
abbrev pub end_of : ReplaySite → Asking → End
end_of s a = record { answer = a.answer.now; to = state_at s a.memory.now a.low.now; side = a.side }

-- the obligation is one of the layer, and all values have the declared shapes
pub record CanTell (s : ReplaySite) (a : Asking) : Type 0 where
  pub obligation : Obligation
  pub is : IsOf s a.case obligation
  pub fit : IsTrue (schedule_fits s.typed.now.file s.place s.layer.now a.schedule.now obligation)
  pub memory : MemoryFits s a.memory.now
  pub low : LowFits s a.low.now

-- with as many picks as the specification's step takes at most
abbrev pub AreAll : ReplaySite → Asking → ℕ → Type 0
AreAll s a count = (o : Obligation) → IsOf s a.case o → count ≡ most (closed_in s) o

-- what is told of one list of picks
abbrev pub ChoiceIn : ReplaySite → Asking → Picks → List ℕ → Type 0
ChoiceIn s a picks text = (o : Obligation) → IsOf s a.case o → IsChoice (closed_in s) o (meant_at s a.schedule.now) (end_of s a) picks text

-- what is told of several
abbrev pub ChoicesIn : ReplaySite → Asking → List Picks → List ℕ → Type 0
ChoicesIn s a lists text = (o : Obligation) → IsOf s a.case o → AreChoices (closed_in s) o (meant_at s a.schedule.now) (end_of s a) lists text

-- the false parts of the hypothesis of this number
abbrev pub FalseIn : ReplaySite → Case → Schedule → ℕ → List ℕ → Type 0
FalseIn s which x number text = (o : Obligation) → IsOf s which o → AreFalseParts (closed_in s) o (meant_at s x) number text

-- what is told of a schedule that shows this
abbrev pub ToldIn : ReplaySite → Case → Schedule → Replayed → List ℕ → Type 0
ToldIn s which x answer text = (o : Obligation) → IsOf s which o → ToldOf (closed_in s) (machine_in s) o (meant_at s x) (shown_by answer) text

-- what is told of all lists of the specification's picks
abbrev pub AllChoicesIn : ReplaySite → Asking → List ℕ → Type 0
AllChoicesIn s a text =
    (o : Obligation) → IsOf s a.case o →
    AreChoices (closed_in s) o (meant_at s a.schedule.now) (end_of s a) (lists_by a.case.kind (most (closed_in s) o)) text

-- the runs that the obligation speaks of meet its hypotheses, wherever they end
abbrev pub MeetsIn : ReplaySite → Case → Schedule → Type 0
MeetsIn s which x = (o : Obligation) → IsOf s which o → (end : End) × Meets (closed_in s) (machine_in s) o (meant_at s x) end

-- what is told of where they end
abbrev pub TellsIn : ReplaySite → Case → Schedule → List ℕ → Type 0
TellsIn s which x text = (o : Obligation) → IsOf s which o → IsTold (closed_in s) (machine_in s) o (meant_at s x) text

-- the same as `ToldIn`, of a schedule of an obligation of a file
abbrev pub IsToldOf : File → Case → Schedule → Replayed → List ℕ → Type 0
IsToldOf f which x answer text =
    (l : Layer) (o : Obligation) → slice_get f.layers which.layer ≡ Some l → obligation_at l which.kind which.number ≡ Some o →
    ToldOf (closed_at f which.layer l) (machine_at f which.layer) o (meant f which.layer l x) (shown_by answer) text
