-- What a schedule of an obligation shows, where its runs have ended.
use Rattle.std.proofs.Common.{◌≡◌, true, [], Some, None, sym, ◌∙◌, subst}
use Rattle.ygg_sched.specs.ygg_meaning.Machine.{Picks}
use Rattle.ygg_sched.specs.ygg_meaning.Obligations.{Obligation}
use Rattle.ygg_sched.specs.ygg_meaning.Related.{all_true}
use Rattle.ygg_sched.specs.ygg_meaning.Replayed.{Shows, Passes, Replays, IsFirstPassing}
use Rattle.ygg_sched.specs.ygg_meaning.Violates.{Reached, hypotheses, most, passes, spec_after}
use Rattle.ygg_replay.specs.declared.site.ReplaySite.{ReplaySite}
use Rattle.ygg_sched.specs.declared.case.Case.{Case}
use Rattle.ygg_sched.specs.declared.schedule.Schedule.{Schedule}
use Rattle.ygg_replay.specs.declared.ends.End.{End}
use Rattle.ygg_replay.specs.Ends.{end_at}
use Rattle.ygg_replay_search.specs.Searching.{IsFirstAfter}
use Rattle.ygg_sched.specs.Cases.{obligation_at}
use Rattle.ygg_replay.specs.Schedules.{schedule_fits}
use Rattle.ygg_replay.specs.Showing.{CanShow}
use Rattle.ygg_replay.specs.Sites.{closed_in, machine_in}
use Rattle.ygg_replay.specs.Steps.{meant_at}
use Rattle.ygg_replay.proofs.Concluding.{passed, shapes, violated}

module _ (s : ReplaySite) (which : Case) (x : Schedule) (can : CanShow s which x) (o : Obligation)
    (is : obligation_at s.layer.now which.kind which.number ≡ Some o) where
  fitting : schedule_fits s.typed.now.file s.place s.layer.now x o ≡ true
  fitting =
      subst (λ (o : Obligation). schedule_fits s.typed.now.file s.place s.layer.now x o ≡ true) (same can.obligation o (sym can.is ∙ is)) can.fit
    where
      same : (a b : Obligation) → Some a ≡ Some b → a ≡ b
      same a b h = cc

  module _ (holds : all_true (hypotheses (closed_in s) o (meant_at s x)) ≡ true) (e : End)
      (reached : Reached (closed_in s) (machine_in s) o (meant_at s x) (end_at s e)) where
    -- the first list with which the conclusion holds was found
    pub found : (picks : Picks) →
        IsFirstAfter (most (closed_in s) o) (λ p. passes (closed_in s) o (end_at s e) (spec_after (closed_in s) o (meant_at s x) p)) [] (Some picks) →
        Replays (closed_in s) (machine_in s) o (meant_at s x) (Passes picks)
    found picks (first, is_first, passing) =
        passed (closed_in s) (machine_in s) o (meant_at s x) (end_at s e) (shapes s.typed.now.file s.place s.layer.now x o fitting) holds reached picks
        (subst (λ (p : Picks). IsFirstPassing (most (closed_in s) o)
        (λ p. passes (closed_in s) o (end_at s e) (spec_after (closed_in s) o (meant_at s x) p)) p) (sym is_first) passing)

    -- there is none
    pub missing :
        IsFirstAfter (most (closed_in s) o) (λ p. passes (closed_in s) o (end_at s e) (spec_after (closed_in s) o (meant_at s x) p)) [] None →
        Replays (closed_in s) (machine_in s) o (meant_at s x) Shows
    missing none =
        violated (closed_in s) (machine_in s) o (meant_at s x) (end_at s e) (shapes s.typed.now.file s.place s.layer.now x o fitting) holds reached none
