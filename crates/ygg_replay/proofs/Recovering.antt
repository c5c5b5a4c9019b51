-- Runs of a layer's blocks as the runs that an obligation speaks of.
use Rattle.std.proofs.Common.{◌≡◌, true, ◌&&◌, List, [], ◌∷◌, length, Option, Some, None, option_map, refl, sym, ap, ◌∙◌, subst}
use Rattle.ygg_value.specs.Values.{same_value}
use Rattle.ygg_value.specs.declared.row.Value.{Value}
use Rattle.ygg_syntax.specs.declared.tree.Block.{Block}
use Rattle.ygg_syntax.specs.declared.tree.Declared.{Declared}
use Rattle.ygg_sched.specs.ygg_meaning.Environments.{Env, bind, same_env}
use Rattle.ygg_sched.specs.ygg_meaning.Shapes.{shape_in, fits, values_fit, zeros_of}
use Rattle.ygg_sched.specs.ygg_meaning.Progress.{Answer}
use Rattle.ygg_sched.specs.ygg_meaning.Machine.{State, based, on}
use Rattle.ygg_sched.specs.ygg_meaning.Layer.{BlockRuns}
use Rattle.ygg_sched.specs.ygg_meaning.Obligations.{StopsAt}
use Rattle.ygg_sched.specs.ygg_meaning.Obligations as obligations
use Rattle.ygg_sched.specs.ygg_meaning.Refines.{Below, OnDisk, OnSpec, machine_below}
use Rattle.ygg_sched.specs.ygg_meaning.Violates.{Formatted, LostBetween, RanWhole, Recovers}
use Rattle.ygg_eval.specs.Layers.{below_at}
use Rattle.ygg_eval.specs.ygg_meaning_laws_proofs_Tests.{bytes_equal, right}
use Rattle.ygg_eval.specs.Kept.{Kept}
use Rattle.ygg_replay.specs.declared.site.ReplaySite.{ReplaySite}
use Rattle.ygg_sched.specs.declared.schedule.Halt.{Halt}
use Rattle.ygg_sched.specs.declared.schedule.Schedule.{Schedule}
use Rattle.ygg_replay.specs.declared.ends.End.{End}
use Rattle.ygg_replay.specs.Ends.{end_at, FellIn, same_list}
use Rattle.ygg_replay.specs.Runs.{RanBy, CutBy, LostBy}
use Rattle.ygg_sched.specs.Fitting.{halt_meant}
use Rattle.ygg_replay.specs.Sites.{closed_in, machine_in, memory_at, low_at, state_at}
use Rattle.ygg_replay.specs.Steps.{meant_at}
use Rattle.ygg_eval.specs.Zeros.{zero_values}
use Rattle.ygg_replay.proofs.Typing.{bind_zeros}

-- waking the machine below takes no pick and leaves its base
wakes_itself : (below : Below) (base : Env) → (machine_below below).Wakes base [] (based base)
wakes_itself (OnDisk d) base = (refl, refl)
wakes_itself (OnSpec L) base = (refl, refl)

module _ (s : ReplaySite) where
  -- a state of the layer with a memory of zeros
  zeros_are : (low : Env) → on (memory_at s (zero_values s.layer.now.memory)) (based low) ≡ on (zeros_of s.layer.now.memory) (based low)
  zeros_are low = ap (λ m. on m (based low)) (bind_zeros s.layer.now.memory)

  -- the `recover` block ran from zeros: a recovery
  pub recovers : (x : Schedule) (low : List Value) (answer : Answer) (to : State Env) →
      RanBy s s.layer.now.recover [] x.wake (state_at s (zero_values s.layer.now.memory) low) answer to →
      Recovers (closed_in s) (machine_in s) (meant_at s x) (low_at s low) to
  recovers x low answer to r = record {
    taken = r.taken;
    run = record {
      lower = based (low_at s low);
      first = [];
      second = r.taken;
      wakes = wakes_itself (below_at s.typed.now.file s.place) (low_at s low);
      next = (
        answer,
        subst (λ (from : State Env). BlockRuns (closed_in s) (machine_in s) s.layer.now.recover [] from r.taken answer to) (zeros_are (low_at s low)) r.run,
      );
      takes = refl;
    };
    read = r.read;
  }

  -- the `format` block ran from zeros on the start of the machine below
  pub formats : (x : Schedule) (low : List Value) (answer : Answer) (e : End) → (machine_in s).Starts (based (low_at s low)) [] →
      RanBy s s.layer.now.format [] x.picks (state_at s (zero_values s.layer.now.memory) low) answer (end_at s e).to →
      Formatted (closed_in s) (machine_in s) (meant_at s x) (end_at s e)
  formats x low answer e starts r = record {
    taken = r.taken;
    run = record {
      lower = based (low_at s low);
      first = [];
      second = r.taken;
      answer = answer;
      starts = starts;
      formats = subst (λ (from : State Env). BlockRuns (closed_in s) (machine_in s) s.layer.now.format [] from r.taken answer (end_at s e).to)
          (zeros_are (low_at s low)) r.run;
      takes = refl;
    };
    read = r.read;
  }

  -- a block that ran from the schedule's first state
  pub whole : (x : Schedule) (b : Block) (args : Env) (e : End) → RanBy s b args x.picks (state_at s x.memory x.low) e.answer (end_at s e).to →
      RanWhole (closed_in s) (machine_in s) b args (meant_at s x) (end_at s e)
  whole x b args e r = record { taken = r.taken; run = r.run; read = r.read }

  -- and one that ran from values that are those
  pub whole_from : (x : Schedule) (b : Block) (args : Env) (e : End) (memory low : List Value) → memory ≡ x.memory → low ≡ x.low →
      RanBy s b args x.picks (state_at s memory low) e.answer (end_at s e).to → RanWhole (closed_in s) (machine_in s) b args (meant_at s x) (end_at s e)
  whole_from x b args e memory low memory_is low_is r =
      whole x b args e (subst (λ (vs : List Value). RanBy s b args x.picks (state_at s x.memory vs) e.answer (end_at s e).to) low_is
      (subst (λ (vs : List Value). RanBy s b args x.picks (state_at s vs low) e.answer (end_at s e).to) memory_is r))

  -- the `format` block ran from values that are zeros, on a machine that starts
  pub formats_from : (x : Schedule) (low memory : List Value) (k : Kept) (answer : Answer) (e : End) → memory ≡ zero_values s.layer.now.memory →
      k ≡ record { number = s.place; values = low } → (machine_in s).Starts (based (low_at s low)) [] →
      RanBy s s.layer.now.format [] x.picks (state_at s memory k.values) answer (end_at s e).to →
      Formatted (closed_in s) (machine_in s) (meant_at s x) (end_at s e)
  formats_from x low memory k answer e are kept starts r =
      formats x low answer e starts (subst (λ (vs : List Value). RanBy s s.layer.now.format [] x.picks (state_at s vs low) answer (end_at s e).to) are
      (subst (λ (k : Kept). RanBy s s.layer.now.format [] x.picks (state_at s memory k.values) answer (end_at s e).to) kept r))

  -- power that was lost from the schedule's first state
  pub lost : (x : Schedule) (fallen : Env) → LostBy s (low_at s x.low) x.picks fallen → LostBetween (closed_in s) (machine_in s) (meant_at s x) fallen
  lost x fallen r = record { taken = r.taken; run = r.run; read = r.read }

  module _ (x : Schedule) (b : Block) (args : Env) (memory : List Value) (stop : Halt) (stops : x.stop ≡ Some stop) where
    halts : (meant_at s x).stop ≡ Some (halt_meant stop)
    halts = ap (λ (h : Option Halt). option_map halt_meant h) stops

    -- power that cut a block at the schedule's stop
    pub fell : (fallen : Env) → CutBy s b args (halt_meant stop) x.picks (state_at s memory x.low) fallen → FellIn s x b args memory fallen
    fell fallen c = record {
      taken = c.taken;
      run = c.run;
      stop = subst (λ (h : Option obligations.Halt). StopsAt h c.run.run.within (length c.run.run.calls)) (sym halts) (c.within, c.event);
      read = c.read;
    }

    pub cut : (fallen : Env) → FellIn s x b args memory fallen → CutBy s b args (halt_meant stop) x.picks (state_at s memory x.low) fallen
    cut fallen c =
        let (within, event) = subst (λ (h : Option obligations.Halt). StopsAt h c.run.run.within (length c.run.run.calls)) halts c.stop in
        record { taken = c.taken; run = c.run; within = within; event = event; read = c.read }

  -- without a stop it cuts none
  pub never : (x : Schedule) (b : Block) (args : Env) (memory : List Value) → x.stop ≡ None → (fallen : Env) → FellIn s x b args memory fallen → ⊥
  never x b args memory none fallen c =
      subst (λ (h : Option obligations.Halt). StopsAt h c.run.run.within (length c.run.run.calls))
      (ap (λ (h : Option Halt). option_map halt_meant h) none) c.stop

-- declared names with values are the same where the values are
pub same_bound : (ds : List Declared) (vs ws : List Value) → values_fit ds vs ≡ true → values_fit ds ws ≡ true →
    same_env (bind ds vs) (bind ds ws) ≡ same_list vs ws
same_bound [] [] [] h g = refl
same_bound [] [] (w ∷ ws) h g = absurd (cc)
same_bound [] (v ∷ vs) ws h g = absurd (cc)
same_bound (d ∷ ds) [] ws h g = absurd (cc)
same_bound (d ∷ ds) (v ∷ vs) [] h g = absurd (cc)
same_bound (d ∷ ds) (v ∷ vs) (w ∷ ws) h g =
    ap (λ b. b && same_value v w && same_env (bind ds vs) (bind ds ws)) (bytes_equal d.name.text)
    ∙ ap (λ b. same_value v w && b)
    (same_bound ds vs ws (right (fits (shape_in d.shape) v) (values_fit ds vs) h) (right (fits (shape_in d.shape) w) (values_fit ds ws) g))
