-- When what was read is a schedule that is wanted.
use Rattle.std.proofs.Common.{◌≡◌, ◌∙◌, ℕ, List, [], ◌∷◌, length, Option, Result, Ok, Err, IfOk, refl, sym, ap, subst}
use Rattle.std.specs.Option.{option_map}
use Rattle.ygg_value.specs.declared.row.Value.{Value}
use Rattle.ygg_syntax.specs.declared.grammar.BlockKind.TheVariants as kind
use Rattle.ygg_syntax.specs.declared.tree.Block as tree
use Rattle.ygg_syntax.specs.declared.tree.Declared.{Declared}
use Rattle.ygg_syntax.specs.declared.tree.Layer.{Layer}
use Rattle.ygg_replay.specs.ygg_meaning.Environments.{Env, bind}
use Rattle.ygg_replay.specs.ygg_meaning.Machine.{Picks, based}
use Rattle.ygg_replay.specs.ygg_meaning.Obligations.{name_of}
use Rattle.ygg_replay.specs.ygg_meaning.Obligations as meaning
use Rattle.ygg_eval_places.specs.ygg_sym_runs.Laws.{picked_by}
use Rattle.ygg_eval_places.specs.ygg_sym_laws.Fronts.{lose_on, run_picks}
use Rattle.ygg_oblige_schedule.specs.ygg_eval.Bodies.{IsBlock, kind_of}
use Rattle.ygg_oblige_schedule.specs.ygg_eval.Layers.{variables_at}
use Rattle.ygg_eval_places.specs.Steps.{FellBetween}
use Rattle.ygg_oblige_given.specs.ygg_oblige_laws.Schedules.{woken_picks}
use Rattle.ygg_replay.specs.ygg_sched.Fitting.{halt_meant}
use Rattle.ygg_replay.specs.ygg_sched.declared.schedule.Schedule.{Schedule}
use Rattle.ygg_oblige_schedule.specs.Here.{below_of, body_of, file_of, inputs_of, layer_of, low_env, numbers_of, obligation_of}
use Rattle.ygg_oblige_schedule.specs.Runs.{PicksAre, StandIs, args_env, memory_env}
use Rattle.ygg_oblige_schedule.specs.Schedules.{IsBounded, IsRead, PartsAre, given_here, made_of, meant_here}
use Rattle.ygg_oblige_schedule.specs.declared.named.CutParts.{CutParts}
use Rattle.ygg_oblige_schedule.specs.declared.reader.FirstBlock.{FirstBlock}
use Rattle.ygg_oblige_schedule.specs.declared.reader.EnvironmentReader.{EnvironmentReader}
use Rattle.ygg_oblige_schedule.specs.declared.reader.Stand.{Stand}
use Rattle.ygg_oblige_schedule.proofs.Falling.{memory_of}
use Rattle.ygg_oblige_schedule.proofs.Values.{bound_count}

-- the parts of a schedule are those of another
pub record Same (x y : meaning.Schedule) : Type 0 where
  pub state : x.state ≡ y.state
  pub memory : x.memory ≡ y.memory
  pub low : x.low ≡ y.low
  pub args : x.args ≡ y.args
  pub stop : x.stop ≡ y.stop
  pub picks : x.picks ≡ y.picks
  pub wake : x.wake ≡ y.wake
  pub other : x.other ≡ y.other

made : Env → Env → Env → List Value → Option meaning.Halt → Picks → Picks → Picks → meaning.Schedule
made a b c d e f g h = record { state = a; memory = b; low = c; args = d; stop = e; picks = f; wake = g; other = h }

same_schedule : (x y : meaning.Schedule) → Same x y → x ≡ y
unfolding made
same_schedule x y s =
    ap (λ z. made z x.memory x.low x.args x.stop x.picks x.wake x.other) s.state
    ∙ ap (λ z. made y.state z x.low x.args x.stop x.picks x.wake x.other) s.memory
    ∙ ap (λ z. made y.state y.memory z x.args x.stop x.picks x.wake x.other) s.low
    ∙ ap (λ z. made y.state y.memory y.low z x.stop x.picks x.wake x.other) s.args
    ∙ ap (λ z. made y.state y.memory y.low y.args z x.picks x.wake x.other) s.stop
    ∙ ap (λ z. made y.state y.memory y.low y.args y.stop z x.wake x.other) s.picks
    ∙ ap (λ z. made y.state y.memory y.low y.args y.stop y.picks z x.other) s.wake
    ∙ ap (λ z. made y.state y.memory y.low y.args y.stop y.picks y.wake z) s.other

-- no values, by names
pub none_bound : (ds : List Declared) (vs : List Value) → vs ≡ [] → bind ds vs ≡ []
none_bound [] vs e = refl
none_bound (d ∷ ds) vs e = ap (bind (d ∷ ds)) e

module _ (r : EnvironmentReader) where
  abbrev l : Layer
  l = r.site.layer.now

  -- values for the states that a schedule may have
  pub record HasStand (state memory low : List Value) (want : meaning.Schedule) : Type 0 where
    pub state_is : bind l.state state ≡ want.state
    pub memory_is : bind l.memory memory ≡ want.memory
    pub low_is : low_env r low ≡ want.low
    pub many_state : length state ≡ length want.state
    pub many_memory : length memory ≡ length want.memory
    pub many_low : length low ≡ length want.low

  -- the states that were read
  pub has_stand : (s : Stand) → StandIs r s → (want : meaning.Schedule) → want.state ≡ (given_here r).vars → want.memory ≡ (given_here r).memory →
      want.low ≡ (given_here r).low → HasStand s.state s.memory s.low want
  has_stand s is want a b c = record {
    state_is = is.state_is ∙ sym a;
    memory_is = is.memory_is ∙ sym b;
    low_is = is.low_is ∙ sym c;
    many_state = sym (bound_count l.state s.state is.state_fits) ∙ ap length (is.state_is ∙ sym a);
    many_memory = sym (bound_count l.memory s.memory is.memory_fits) ∙ ap length (is.memory_is ∙ sym b);
    many_low = sym (bound_count (variables_at (file_of r) r.site.place) s.low is.low_fits) ∙ ap length (is.low_is ∙ sym c);
  }

  -- no states
  pub has_none : (state memory low : List Value) (want : meaning.Schedule) → state ≡ [] → memory ≡ [] → low ≡ [] → want.state ≡ [] → want.memory ≡ [] →
      want.low ≡ [] → HasStand state memory low want
  has_none state memory low want s m o a b c = record {
    state_is = none_bound l.state state s ∙ sym a;
    memory_is = none_bound l.memory memory m ∙ sym b;
    low_is = none_bound (variables_at (file_of r) r.site.place) low o ∙ sym c;
    many_state = ap length s ∙ sym (ap length a);
    many_memory = ap length m ∙ sym (ap length b);
    many_low = ap length o ∙ sym (ap length c);
  }

  -- what is read is the schedule that is wanted
  pub read_so : (want : meaning.Schedule) (x : Schedule) → x.name ≡ name_of l.name.text (obligation_of r) → HasStand x.state x.memory x.low want →
      x.args ≡ want.args → IsBounded x.stop → option_map halt_meant x.stop ≡ want.stop → x.picks ≡ want.picks → x.wake ≡ want.wake → x.other ≡ want.other →
      IsRead r want x
  read_so want x name has args bounded stop picks wake other = record {
    name = name;
    means = same_schedule (meant_here r x) want (record {
      state = has.state_is;
      memory = has.memory_is;
      low = has.low_is;
      args = args;
      stop = stop;
      picks = picks;
      wake = wake;
      other = other;
    });
    many = record { state = has.many_state; memory = has.many_memory; low = has.many_low };
    bounded = bounded;
  }

  module _ (block : FirstBlock) (args own below : List Value) (memory low : Env) (implements : kind_of block.part ≡ kind.Impl)
      (is_memory : bind l.memory own ≡ memory) (is_low : low_env r below ≡ low) (b : tree.Block) (is : IsBlock (file_of r) (body_of r block) l b) where
    -- the memory of a run
    pub memory_is : memory_env r block args own below l ≡ memory
    memory_is = ap (λ (ds : List Declared). bind ds own) (memory_of l block.part implements) ∙ is_memory

    -- the picks of a run from a memory and a state below
    pub picks_are : (first : ℕ) (picks : Picks) → PicksAre r block args own below first picks →
        picks ≡ run_picks (below_of r) (layer_of r) b memory (args_env r block args own below l) low (picked_by (inputs_of r) first)
    picks_are first picks h =
        h l b is
        ∙ ap (λ (m : Env). run_picks (below_of r) (layer_of r) b m (args_env r block args own below l) (low_env r below) (picked_by (inputs_of r) first))
        memory_is
        ∙ ap (λ (z : Env). run_picks (below_of r) (layer_of r) b memory (args_env r block args own below l) z (picked_by (inputs_of r) first)) is_low

    -- the parts of a run that power cuts
    pub parts_are : (p : CutParts) → PartsAre r b (memory_env r block args own below l) (args_env r block args own below l) (low_env r below) p →
        PartsAre r b memory (args_env r block args own below l) low p
    parts_are p h =
        subst (λ (z : Env). PartsAre r b memory (args_env r block args own below l) z p) is_low
        (subst (λ (m : Env). PartsAre r b m (args_env r block args own below l) (low_env r below) p) memory_is h)

  -- the picks of a recovery from what power has left
  pub wake_is : (first : ℕ) (left : List Value) (from : Env) (picks : Picks) → low_env r left ≡ from →
      picks ≡ woken_picks (below_of r) (layer_of r) (inputs_of r) first (low_env r left) →
      picks ≡ woken_picks (below_of r) (layer_of r) (inputs_of r) first from
  wake_is first left from picks e h = h ∙ ap (λ (z : Env). woken_picks (below_of r) (layer_of r) (inputs_of r) first z) e

  -- what power loss between operations leaves
  pub left_is : (low left : List Value) (from : Env) (picks : Picks) → low_env r low ≡ from →
      FellBetween (file_of r) r.site.place (picked_by (inputs_of r) (numbers_of r).last) low left [] picks →
      low_env r left ≡ lose_on (below_of r) (picked_by (inputs_of r) (numbers_of r).last) (based from)
  left_is low left from picks e h = h.base ∙ ap (λ (z : Env). lose_on (below_of r) (picked_by (inputs_of r) (numbers_of r).last) (based z)) e

  -- what holds of a schedule of these parts holds of what a call answers that makes it
  pub read_from : {E : Type 0} (s : Stand) (args : List Value) (p : CutParts) (other : Picks) (x : Result Schedule E) (P : Schedule → Type 0) →
      IfOk x (λ x. x ≡ made_of r s args p other) → P (made_of r s args p other) → IfOk x P
  read_from s args p other (Ok x) P e h = subst P (sym e) h
  read_from s args p other (Err x) P e h = tt
