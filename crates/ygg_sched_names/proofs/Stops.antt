-- Where an obligation of a layer speaks of a run that power cuts, a schedule that violates it has a stop.
use Rattle.std.proofs.Common.{◌≡◌, ℕ, Bool, true, false, Option, Some, None, is_some, refl, ap}
use Rattle.std.specs.Option.{option_map}
use Rattle.ygg_replay.specs.ygg_meaning.Environments.{Env, bind}
use Rattle.ygg_replay.specs.ygg_meaning.Layer.{ClosedLayer}
use Rattle.ygg_replay.specs.ygg_meaning.Machine.{Machine}
use Rattle.ygg_replay.specs.ygg_meaning.Obligations.{Obligation, Init, CallOf, CutOf, TickOf, CutTickOf, Idle, Again, StopsAt}
use Rattle.ygg_replay.specs.ygg_meaning.Obligations as meaning
use Rattle.ygg_replay.specs.ygg_meaning.Violates.{End, Reached}
use Rattle.ygg_replay.specs.ygg_sched.Fitting.{halt_meant}
use Rattle.ygg_replay.specs.ygg_sched.Sites.{has_stop}
use Rattle.ygg_replay.specs.ygg_sched.declared.schedule.Halt.{Halt}
use Rattle.ygg_replay.specs.ygg_sched.declared.schedule.Schedule.{Schedule}

-- the schedule that is meant for an obligation of a layer
abbrev meant_on : ClosedLayer → Schedule → meaning.Schedule
meant_on L x = record {
  state = bind L.layer.state x.state;
  memory = bind L.layer.memory x.memory;
  low = bind L.low x.low;
  args = x.args;
  stop = option_map halt_meant x.stop;
  picks = x.picks;
  wake = x.wake;
  other = x.other;
}

-- a stop that is reached is there
there : (stop : Option Halt) (within : Bool) (event : ℕ) → StopsAt (option_map halt_meant stop) within event → is_some stop ≡ true
there None within event h = absurd h
there (Some halt) within event h = refl

module _ (L : ClosedLayer) (M : Machine Env Bool) (x : Schedule) (end : End) where
  reached : (o : Obligation) → Reached L M o (meant_on L x) end → has_stop o ≡ true → is_some x.stop ≡ true
  reached Init r e = absurd (cc)
  reached (CallOf o) r e = absurd (cc)
  reached (CutOf o) r e = there x.stop _ _ r.falls.stop
  reached (TickOf t) r e = absurd (cc)
  reached (CutTickOf t) r e = there x.stop _ _ r.falls.stop
  reached Idle r e = absurd (cc)
  reached Again r e = there x.stop _ _ r.falls.stop

  -- the stop is there exactly where the obligation speaks of one
  pub stop_there : (o : Obligation) → Reached L M o (meant_on L x) end → (has_stop o ≡ false → x.stop ≡ None) → is_some x.stop ≡ has_stop o
  stop_there o r none = by_test (has_stop o) refl
    where
      by_test : (b : Bool) → has_stop o ≡ b → is_some x.stop ≡ b
      by_test true e = reached o r e
      by_test false e = ap is_some (none e)
