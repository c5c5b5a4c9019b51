-- What became of what a machine did, with the stop that follows it.
use Rattle.std.proofs.Common.{◌≡◌, ◌≤◌, ◌<◌, ℕ, ◌+◌, ◌^◌, Bool, true, false, List, [], ◌∷◌}
use Rattle.std.proofs.Common.{◌++◌, length, MatchBool, MatchOption, Option, Some, None, refl, sym, ap, ◌∙◌, subst, arith}
use Rattle.std.proofs.lemmas.List.{length-map, length-append}
use Rattle.ygg_run_play.specs.ygg_disk.declared.power.Fuse.{Fuse}
use Rattle.ygg_run_play.specs.ygg_disk.declared.power.Power.{Power}
use Rattle.ygg_run_play.specs.ygg_disk.declared.turn.Event.{Event}
use Rattle.ygg_run_play.specs.ygg_meaning.Environments.{Env}
use Rattle.ygg_run_play.specs.ygg_meaning.Progress.{Answer}
use Rattle.ygg_run_play.specs.ygg_meaning.Machine.{State, Machine}
use Rattle.ygg_run_play.specs.ygg_meaning.Noted.{Note}
use Rattle.ygg_run_play.specs.ygg_meaning.Trace.{Leads, Up, Down}
use Rattle.ygg_run_play.specs.Named.{EndsAt, Misses}
use Rattle.ygg_run_play.specs.Lines.{events_of, calls_lines}
use Rattle.ygg_run_play.specs.Scene.{Deed, Leave, AreWhole, AreCut, Whole, Cut, Ends, After, FallsAfterAll}
use Rattle.ygg_run_play.specs.Doing.{left_of, IsReady, CutsAfterAll, Counted, Missed, StopsSo, IsStopped}
use Rattle.ygg_run_play.specs.declared.scene.CommandOutcome.{CommandOutcome}
use Rattle.ygg_run_play.specs.declared.scene.CommandOutcome.TheVariants as outcome
use Rattle.ygg_run_play.proofs.Leaving.{leave_taken, leave_fuse, leave_events, leave_counted, leave_cut, leave_split}

-- the events are those that are shown
are_shown : (shows : Option (List Event)) (calls events : List Event) → MatchOption shows (calls ≡ []) (λ es. calls ≡ es) → shows ≡ Some events →
    calls ≡ events
are_shown None calls events is same = absurd (cc)
are_shown (Some es) calls events is same = cc

module _ (M : Machine Env Note) (deed : Deed) (from : State Env) (before after : Power) (ready : IsReady before) (calls : List Event)
    (shown : MatchOption after.events (calls ≡ []) (λ es. calls ≡ es)) (few : length calls < 2 ^ 64) where
  are_calls : (notes : List Note) → Leave notes before after → calls ≡ events_of notes
  are_calls notes left = are_shown after.events calls (events_of notes) shown (leave_events notes before after [] ready.events left)

  length_is : (notes : List Note) → Leave notes before after → length calls ≡ length notes
  length_is notes left = ap (λ (es : List Event). length es) (are_calls notes left) ∙ length-map notes _

  -- so many whole calls were counted as there are
  passed_is : (notes : List Note) → AreWhole notes → Leave notes before after → after.passed ≡ length notes
  passed_is notes whole left =
      let long = length_is notes left in
      let zero_is = ready.passed in
      omega (arith, zero_is, leave_counted notes before after whole (omega (arith, long, few, zero_is)) left)

  -- calls of which power cut the last one, or cut none, end where the count says
  cut_at : (within : Bool) (call : ℕ) (notes : List Note) → AreCut within notes → Leave notes before after → after.passed ≡ call →
      EndsAt (record { within = within; call = call }) notes
  cut_at false call notes (whole, are, end) left named = record {
    whole = whole;
    are_whole = are;
    count = ap (λ (ns : List Note). length ns) (sym end) ∙ sym (passed_is notes (subst AreWhole (sym end) are) left) ∙ named;
    end = end;
  }
  cut_at true call notes (whole, are, (last, cut, end)) left named =
      let (middle, first, rest) = leave_split whole (last ∷ []) before after (subst (λ (ns : List Note). Leave ns before after) end left) in
      let long = length_is notes left in
      let longer : length notes ≡ length whole + 1 = ap (λ (ns : List Note). length ns) end ∙ length-append whole (last ∷ []) in
      let zero_is = ready.passed in
      let counts = leave_counted whole before middle are (omega (arith, long, longer, few, zero_is)) first in
      let stays = leave_cut last middle after cut rest in
      record { whole = whole; are_whole = are; count = omega (arith, counts, stays, named, zero_is); end = (last, cut, end) }

  module _ {T : Type 0} (state : T → State Env) (Runs Stands : T → Type 0) (old new : T) (law : Runs old → FallsAfterAll M) (cuts : CutsAfterAll M deed)
      (lines lines' : List ℕ) (printed : (notes : List Note) → calls ≡ events_of notes → lines' ≡ lines ++ calls_lines notes) where
    abbrev Lost : Type 0
    Lost = Runs old → M.Loses (state old) [] (state new).base × Stands new

    abbrev Said : CommandOutcome → Type 0
    Said ended = Counted M deed before.fuse from (left_of before.picks) after (state new) (Runs new) (Stands new) lines lines' ended

    said : (ended : CommandOutcome) (notes : List Note) → Leave notes before after →
        StopsSo M deed before.fuse from (left_of before.picks) ended notes (state new) → After ended (Runs new) (Stands new) → Said ended
    said ended notes left so stands =
        let taken = leave_taken notes before after ready.past left in
        record {
          notes = notes;
          stopped = record { so = so; takes = taken.0 };
          past = taken.1;
          stands = stands;
          printed = printed notes (are_calls notes left);
        }

    whole_said : (answer : Answer) (to : State Env) → Whole M deed from before answer to after → after.fuse ≡ None → to ≡ state new → Runs new →
        Said (outcome.Whole answer)
    whole_said answer to w none same runs =
        said (outcome.Whole answer) w.notes w.left (
          sym (leave_fuse w.notes before after w.left) ∙ none,
          w.gives,
          subst (λ (s : State Env). Leads M (deed.whole answer w.notes) (deed.from from) (Up s)) same w.leads,
        ) runs

    cut_said : (to : State Env) → Cut M deed from before to after → to ≡ state new → Stands new → Said outcome.Down
    cut_said to c same stands =
        said outcome.Down c.notes c.left (
          c.fuse,
          c.is,
          cut_at c.fuse.within c.fuse.call c.notes c.at c.left c.named,
          subst (λ (s : State Env). Leads M (deed.cut c.notes) (deed.from from) (Down s.base)) same c.leads,
        ) stands

    -- power fails after the last call
    last_said : (answer : Answer) → Whole M deed from before answer (state old) after → (stop : Fuse) → after.fuse ≡ Some stop → stop.within ≡ false →
        stop.call ≡ length calls → Runs old → Lost → Said outcome.Down
    last_said answer w stop is before_it count runs lost =
        let gone = lost runs in
        said outcome.Down w.notes w.left (
          stop,
          sym (leave_fuse w.notes before after w.left) ∙ is,
          record {
            whole = w.notes;
            are_whole = w.are_whole;
            count = sym (length_is w.notes w.left) ∙ sym count;
            end = subst (λ (b : Bool). MatchBool b ((last : Note) × (last.cut ≡ true) × (w.notes ≡ w.notes ++ last ∷ [])) (w.notes ≡ w.notes))
                (sym before_it) refl;
          },
          cuts (law runs) from (state old) answer w.notes (state new).base w.leads gone.0,
        ) gone.1

    counted_by : (was ended : CommandOutcome) (stop : Option Fuse) → after.fuse ≡ stop → Ends M deed from before was (state old) after →
        After was (Runs old) (Stands old) → IsStopped stop (length calls) was (Some ended) (new ≡ old) Lost → Said ended
    counted_by (outcome.Whole answer) ended None none w runs (same, still) =
        subst Said (sym same)
        (whole_said answer (state old) w none (ap state (sym still)) (subst Runs (sym still) runs))
    counted_by outcome.Down ended None none c stands (same, still) =
        absurd (cc (c.is, leave_fuse c.notes before after c.left, none))
    counted_by (outcome.Whole answer) (outcome.Whole other) (Some stop) is w runs said = absurd said
    counted_by (outcome.Whole answer) outcome.Down (Some stop) is w runs (before_it, count, lost) = last_said answer w stop is before_it count runs lost
    counted_by outcome.Down (outcome.Whole other) (Some stop) is c stands said = absurd said
    counted_by outcome.Down outcome.Down (Some stop) is c stands still =
        cut_said (state old) c (ap state (sym still)) (subst Stands (sym still) stands)

    -- what a machine did with which it ended so
    pub is_counted : (was ended : CommandOutcome) → Ends M deed from before was (state old) after → After was (Runs old) (Stands old) →
        IsStopped after.fuse (length calls) was (Some ended) (new ≡ old) Lost → Said ended
    is_counted was ended ends stands stopped = counted_by was ended after.fuse refl ends stands stopped

  misses_by : (within : Bool) (call : ℕ) (notes : List Note) → MatchBool within (Unit {0}) (call ≡ length calls → ⊥) → length calls ≡ length notes →
      length notes ≤ call → Misses (record { within = within; call = call }) notes
  misses_by true call notes other long most = most
  misses_by false call notes other long most = omega (arith, λ (e : call ≡ length notes). other (e ∙ sym long), most)

  missed_by : (Same Lost : Type 0) (was : CommandOutcome) (to : State Env) (stop : Option Fuse) → after.fuse ≡ stop → Ends M deed from before was to after →
      IsStopped stop (length calls) was None Same Lost → Missed M deed before.fuse from (left_of before.picks)
  missed_by Same Lost was to None none ends stopped = absurd stopped
  missed_by Same Lost outcome.Down to (Some stop) is c stopped = absurd stopped
  missed_by Same Lost (outcome.Whole answer) to (Some stop) is w stopped =
      let set = sym (leave_fuse w.notes before after w.left) ∙ is in
      let zero_is = ready.passed in
      let most = w.unreached stop set (omega (arith, zero_is)) in
      let passed = passed_is w.notes w.are_whole w.left in
      let taken = leave_taken w.notes before after ready.past w.left in
      record {
        point = stop;
        is = set;
        notes = w.notes;
        answer = answer;
        to = to;
        left = left_of after.picks;
        gives = w.gives;
        leads = w.leads;
        takes = taken.0;
        misses = misses_by stop.within stop.call w.notes stopped (length_is w.notes w.left) (omega (arith, most, passed));
      }

  -- what a machine did whose stop isn't reached
  pub is_missed : (Same Lost : Type 0) (was : CommandOutcome) (to : State Env) → Ends M deed from before was to after →
      IsStopped after.fuse (length calls) was None Same Lost → Missed M deed before.fuse from (left_of before.picks)
  is_missed Same Lost was to ends stopped = missed_by Same Lost was to after.fuse refl ends stopped
