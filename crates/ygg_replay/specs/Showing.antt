-- What a schedule shows, at a layer of a file.
use Rattle.std.specs.Prelude.{◌≡◌, IsTrue, Some}
use Rattle.ygg_sched.specs.ygg_meaning.Obligations.{Obligation}
use Rattle.ygg_sched.specs.ygg_meaning.Replayed.{Replays}
use Rattle.ygg_replay.specs.declared.site.ReplaySite.{ReplaySite}
use Rattle.ygg_sched.specs.declared.case.Case.{Case}
use Rattle.ygg_sched.specs.declared.schedule.Schedule.{Schedule}
use Rattle.ygg_replay.specs.declared.schedule.Replayed.{Replayed}
use Rattle.ygg_sched.specs.Cases.{obligation_at}
use Rattle.ygg_replay.specs.Schedules.{schedule_fits, shown_by}
use Rattle.ygg_replay.specs.Sites.{closed_in, machine_in}
use Rattle.ygg_replay.specs.Steps.{meant_at}

-- the obligation is one of the layer, and the values that it speaks of have the shapes that are declared
pub record CanShow (s : ReplaySite) (which : Case) (x : Schedule) : Type 0 where
  pub obligation : Obligation
  pub is : obligation_at s.layer.now which.kind which.number ≡ Some obligation
  pub fit : IsTrue (schedule_fits s.typed.now.file s.place s.layer.now x obligation)

-- the answer is what the schedule shows
abbrev pub ShowsHere : ReplaySite → Case → Schedule → Replayed → Type 0
ShowsHere s which x answer =
    (o : Obligation) → obligation_at s.layer.now which.kind which.number ≡ Some o →
    Replays (closed_in s) (machine_in s) o (meant_at s x) (shown_by answer)
