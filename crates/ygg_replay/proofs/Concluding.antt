-- What a schedule shows, by its hypotheses, its runs and its conclusion.
use Rattle.std.proofs.Common.{◌≡◌, ℕ, Bool, true, false, ◌&&◌, length, Some, inl, inr, refl}
use Rattle.ygg_syntax.specs.declared.tree.Layer.{Layer}
use Rattle.ygg_syntax.specs.declared.tree.File.{File}
use Rattle.ygg_sched.specs.ygg_meaning.Environments.{Env}
use Rattle.ygg_sched.specs.ygg_meaning.Shapes.{values_fit, env_fits}
use Rattle.ygg_sched.specs.ygg_meaning.Machine.{Picks, Machine}
use Rattle.ygg_sched.specs.ygg_meaning.Layer.{ClosedLayer}
use Rattle.ygg_sched.specs.ygg_meaning.Obligations.{Obligation, Init, CallOf, CutOf, TickOf, CutTickOf, Idle, Again, NoPicksPass}
use Rattle.ygg_sched.specs.ygg_meaning.Obligations as obligations
use Rattle.ygg_sched.specs.ygg_meaning.Related.{all_true, shaped}
use Rattle.ygg_sched.specs.ygg_meaning.Replayed.{Shows, Hypothesis, Passes, Replays, IsFirstPassing, has_stop}
use Rattle.ygg_sched.specs.ygg_meaning.Violates.{End, Meets, Reached, FallsSo, hypotheses, most, passes, shapes_fit, spec_after}
use Rattle.ygg_eval.specs.ygg_meaning_laws_proofs_Tests.{left, right}
use Rattle.ygg_eval.specs.Layers.{variables_at, closed_at}
use Rattle.ygg_eval.proofs.Blocks.{bind_fits}
use Rattle.ygg_sched.specs.declared.schedule.Schedule.{Schedule}
use Rattle.ygg_replay.specs.Schedules.{meant, schedule_fits, states_fit}
use Rattle.ygg_replay.specs.Sites.{first_false}
use Rattle.ygg_replay.proofs.Firsts.{first_is}

pub both_true : (a b : Bool) → a ≡ true → b ≡ true → (a && b) ≡ true
both_true true true h g = refl
both_true true false h g = absurd (cc)
both_true false b h g = absurd (cc)

module _ (file : File) (place : ℕ) (l : Layer) (x : Schedule) where
  abbrev L : ClosedLayer
  L = closed_at file place l

  abbrev y : obligations.Schedule
  y = meant file place l x

  abbrev vars_fit : Bool
  vars_fit = values_fit l.state x.state

  abbrev memory_fits : Bool
  memory_fits = values_fit l.memory x.memory

  abbrev low_fits : Bool
  low_fits = values_fit (variables_at file place) x.low

  -- values of the declared shapes, by name
  states_shaped : states_fit file place l x ≡ true → shaped L y.state y.memory y.low ≡ true
  states_shaped h =
      let rest = right vars_fit (memory_fits && low_fits) h in
      both_true (env_fits l.state y.state && env_fits l.memory y.memory) (env_fits (variables_at file place) y.low)
      (both_true (env_fits l.state y.state) (env_fits l.memory y.memory) (bind_fits l.state x.state (left vars_fit (memory_fits && low_fits) h))
      (bind_fits l.memory x.memory (left memory_fits low_fits rest)))
      (bind_fits (variables_at file place) x.low (right memory_fits low_fits rest))

  pub shapes : (o : Obligation) → schedule_fits file place l x o ≡ true → shapes_fit L o y ≡ true
  shapes Init h = refl
  shapes (CallOf o) h =
      let args = values_fit o.arguments x.args in
      both_true (shaped L y.state y.memory y.low) args (states_shaped (left (states_fit file place l x) args h)) (right (states_fit file place l x) args h)
  shapes (CutOf o) h =
      let args = values_fit o.arguments x.args in
      both_true (shaped L y.state y.memory y.low) args (states_shaped (left (states_fit file place l x) args h)) (right (states_fit file place l x) args h)
  shapes (TickOf t) h = states_shaped h
  shapes (CutTickOf t) h = states_shaped h
  shapes Idle h = states_shaped h
  shapes Again h = bind_fits (variables_at file place) x.low h

module _ (L : ClosedLayer) (M : Machine Env Bool) (o : Obligation) (x : obligations.Schedule) where
  -- a hypothesis on the first states is false
  pub is_false : (n : ℕ) → first_false (hypotheses L o x) ≡ Some n → Replays L M o x (Hypothesis n)
  is_false n h = let f = first_is (hypotheses L o x) n h in inl (f.before, f.after, f.is, f.true_before, f.counts)

  -- the stop is not reached
  pub not_reached : (n : ℕ) → all_true (hypotheses L o x) ≡ true → has_stop o ≡ true → ((fallen : Env) → ¬ (FallsSo L M o x fallen)) →
      n ≡ length (hypotheses L o x) → Replays L M o x (Hypothesis n)
  not_reached n h stop none is = inr (h, stop, none, is)

  module _ (end : End) (shapes : shapes_fit L o x ≡ true) (holds : all_true (hypotheses L o x) ≡ true) (reached : Reached L M o x end) where
    meets : Meets L M o x end
    meets = record { shapes = shapes; hypotheses = holds; reached = reached }

    -- no picks pass
    pub violated : NoPicksPass (most L o) (λ picks. passes L o end (spec_after L o x picks)) → Replays L M o x Shows
    violated none = record { end = end; meets = meets; fails = none }

    -- these are the first that do
    pub passed : (picks : Picks) → IsFirstPassing (most L o) (λ picks. passes L o end (spec_after L o x picks)) picks → Replays L M o x (Passes picks)
    passed picks first = (end, meets, first)
