-- A layer keeps what a machine below a layer keeps, where the machine below it does. These are proofs that stand among the specifications, since a
-- floor gives them as the value of its field `keeps`.
use Rattle.std.specs.Prelude.{◌≡◌, ℕ, suc, true, IsTrue, List, [], take, length, slice_get, Option, Some, None, Result}
use Rattle.std.proofs.Common.{refl, sym, ap, ◌∙◌, subst}
use Rattle.ygg_base.specs.Outside.{Rose}
use Rattle.ygg_list.specs.declared.memory.NoMemory.{NoMemory}
use Rattle.ygg_value.specs.declared.row.Value.{Value}
use Rattle.ygg_syntax.specs.declared.tree.Block.{Block}
use Rattle.ygg_syntax.specs.declared.tree.Layer.{Layer}
use Rattle.ygg_syntax.specs.declared.tree.Operation.{Operation}
use Rattle.ygg_syntax.specs.declared.tree.File.{File}
use Rattle.ygg_eval.specs.ygg_disk.Power.{IsNamed}
use Rattle.ygg_eval.specs.ygg_meaning.Environments.{Name, Env, bind}
use Rattle.ygg_eval.specs.ygg_meaning.Shapes.{values_fit}
use Rattle.ygg_eval.specs.ygg_meaning.Progress.{Answer}
use Rattle.ygg_eval.specs.ygg_meaning.Machine.{State, on, Machine}
use Rattle.ygg_eval.specs.ygg_meaning.Runs.{Dialogue, FallenRun}
use Rattle.ygg_eval.specs.ygg_meaning.Layer.{ClosedLayer, Layered, OfOperation, BlockRuns, BlockFalls, dialogue_of}
use Rattle.ygg_eval.specs.Layers.{closed_at}
use Rattle.ygg_eval.specs.Lower.{
  Standing,
  Meaning,
  Ending,
  Whole,
  Down,
  Failed,
  Starved,
  Cause,
  PowerLoss,
  GivenUp,
  Passes,
  GoesOn,
  KeepsInCall,
  IsLower,
}
use Rattle.ygg_eval.specs.declared.run.Ended.{Ended}
use Rattle.ygg_eval.proofs.Public.{bind_counted}
use Rattle.ygg_eval.specs.Steps.{RunsWhole, RunsInPart, RunSteps}
use Rattle.ygg_eval.proofs.Steps.{runs_are_steps}
use Rattle.ygg_machine.specs.Floors.{Raised, lower_of, place_of, idle_on, layer_over, EndsAs, RunsOn, CallsFloor, floor_meaning}

module _ {S : Type 0} (M : Meaning S) (file : File) (place : ℕ) where
  -- the machine below
  abbrev pub Below : Cause → Machine M.behavior.Base M.behavior.Note
  Below cause = M.behavior.machine cause file place

  -- the state of the layer, which is this one, on the machine below
  abbrev pub state_on : Layer → Raised S → State M.behavior.Base
  state_on l s = on (bind l.memory s.memory) (M.behavior.state file s.below)

  module _ (l : Layer) (b : Block) (args : Env) (from to : Standing (Raised S)) where
    -- the block was whole
    pub record BlockWhole (answer : Answer) : Type 0 where
      pub notes : List M.behavior.Note
      pub run : (cause : Cause) → BlockRuns (closed_at file place l) (Below cause) b args (state_on l from.machine) notes answer (state_on l to.machine)
      pub leaves : M.behavior.Leaves None file (lower_of from) notes (lower_of to)
      pub passes : Passes from.power to.power
      pub fit : IsTrue (values_fit l.memory to.machine.memory)

    -- power failed in it
    pub record BlockDown : Type 0 where
      pub notes : List M.behavior.Note
      pub run : BlockFalls (closed_at file place l) (Below PowerLoss) b args (state_on l from.machine) notes (state_on l to.machine).base
      pub leaves : M.behavior.Leaves (Some PowerLoss) file (lower_of from) notes (lower_of to)
      pub passes : Passes from.power to.power
      pub named : IsNamed to.power

    -- it was given up
    pub record BlockInPart : Type 0 where
      pub notes : List M.behavior.Note
      pub run : BlockFalls (closed_at file place l) (Below GivenUp) b args (state_on l from.machine) notes (state_on l to.machine).base
      pub leaves : M.behavior.Leaves (Some GivenUp) file (lower_of from) notes (lower_of to)

    -- what lies below failed
    pub record BlockBroke : Type 0 where
      pub part : BlockInPart
      pub rose : Rose (M.faults from.machine.below) (M.faults to.machine.below)
      pub passes : Passes from.power to.power
      pub unnamed : ¬ IsNamed to.power

    -- how it ended
    abbrev pub BlockSteps : Ending → Type 0
    BlockSteps (Whole answer) = BlockWhole answer
    BlockSteps Down = BlockDown
    BlockSteps Failed = BlockBroke
    BlockSteps Starved = BlockInPart

    -- how it ended, on the machine below that keeps its number and its faults
    pub record BlockKept (ending : Ending) : Type 0 where
      pub goes_on : GoesOn M file (lower_of from) (lower_of to)
      pub steps : BlockSteps ending

module _ {S : Type 0} (M : Meaning S) (keeps : IsLower M) (file : File) (l : Layer) (b : Block) (args : Env) (from to : Standing (Raised S))
    (fit : IsTrue (values_fit l.memory from.machine.memory)) where
  abbrev place : ℕ
  place = (place_of M from.machine)

  abbrev memory : Env
  memory = bind l.memory from.machine.memory

  abbrev block : Dialogue
  block = dialogue_of (closed_at file place l) b memory args

  -- the memory after a whole run is what the run leaves
  left : (env : Env) → bind l.memory to.machine.memory ≡ take (length from.machine.memory) env → bind l.memory to.machine.memory ≡ take (length memory) env
  left env e = e ∙ ap (λ (n : ℕ). take n env) (sym (bind_counted l.memory from.machine.memory fit))

  abbrev Kept : Ending → Type 0
  Kept ending = BlockSteps M file place l b args from to ending

  whole : (answer : Answer) → RunsWhole M file place block l.memory from.machine.memory to.machine.memory (lower_of from) (lower_of to) answer → Kept
      (Whole answer)
  whole answer w = record {
    notes = w.notes;
    run = λ cause. record {
      memory = memory;
      lower = M.behavior.state file from.machine.below;
      from_is = refl;
      env' = w.env;
      lower' = M.behavior.state file to.machine.below;
      run = w.run cause;
      to_is = ap (λ (e : Env). on e (M.behavior.state file to.machine.below)) (left w.env w.variables_are);
    };
    leaves = w.leaves;
    passes = w.passes;
    fit = w.fit;
  }

  -- a fall of the block
  falls : (cause : Cause) (notes : List M.behavior.Note) →
      FallenRun (M.behavior.machine cause file place) block (M.behavior.state file from.machine.below) notes (M.behavior.state file to.machine.below).base →
      BlockFalls (closed_at file place l) (M.behavior.machine cause file place) b args (state_on M file place l from.machine) notes
      (state_on M file place l to.machine).base
  falls cause notes run = record { memory = memory; lower = M.behavior.state file from.machine.below; from_is = refl; run = run }

  in_part : RunsInPart M file place block l.memory from.machine.memory to.machine.memory (lower_of from) (lower_of to) → BlockInPart M file place l b
      args from to
  in_part p = record { notes = p.notes; run = falls GivenUp p.notes p.run; leaves = p.leaves }

  by_result : (result : Result Ended NoMemory) →
      RunSteps M file place block l.memory from.machine.memory to.machine.memory (lower_of from) (lower_of to) result →
      (ending : Ending) → EndsAs ending result → Kept ending
  by_result result h (Whole answer) e =
      whole answer (subst (RunSteps M file place block l.memory from.machine.memory to.machine.memory (lower_of from) (lower_of to)) e h)
  by_result result h Down e =
      let (d, passes, named) = subst (RunSteps M file place block l.memory from.machine.memory to.machine.memory (lower_of from) (lower_of to)) e h in
      record { notes = d.notes; run = falls PowerLoss d.notes d.run; leaves = d.leaves; passes = passes; named = named }
  by_result result h Failed e =
      let (p, passes, unnamed, rose) = subst (RunSteps M file place block l.memory from.machine.memory to.machine.memory (lower_of from) (lower_of to)) e h in
      record { part = in_part p; rose = rose; passes = passes; unnamed = unnamed }
  by_result result h Starved (none, e) =
      in_part (subst (RunSteps M file place block l.memory from.machine.memory to.machine.memory (lower_of from) (lower_of to)) e h)

-- a block that was run on the machine below is a run of the layer's block on the machine that it is
pub block_kept : {S : Type 0} (M : Meaning S) → IsLower M → (file : File) (l : Layer) (b : Block) (args : Env) (from to : Standing (Raised S))
    (ending : Ending) →
    RunsOn M file l b args from ending to → BlockKept M file (place_of M from.machine) l b args from to ending
block_kept M keeps file l b args from to ending r =
    let (goes_on, steps) = runs_are_steps M keeps file (place_of M from.machine) (dialogue_of (closed_at file (place_of M from.machine) l) b
    (bind l.memory from.machine.memory) args)
    l.memory from.machine.memory to.machine.memory None r.result (lower_of from) (lower_of to) refl r.run in
    record { goes_on = goes_on; steps = by_result M keeps file l b args from to r.fit r.result steps ending r.ends_as }

module _ {S : Type 0} (M : Meaning S) (file : File) where
  -- a layer that may be there on a machine, and its memory on a state
  abbrev over : ℕ → Option Layer → Machine M.behavior.Base M.behavior.Note → Machine M.behavior.Base M.behavior.Note
  over place o N = elim o [ None ↦ idle_on N | Some l ↦ Layered (closed_at file place l) N ]

  abbrev shown : Option Layer → Raised S → State M.behavior.Base
  shown o s = on (bind (elim o [ None ↦ [] | Some l ↦ l.memory ]) s.memory) (M.behavior.state file s.below)

  -- what is so of the layer that is there is so of the layer at its place
  pub at_place : (T : Machine M.behavior.Base M.behavior.Note → State M.behavior.Base → State M.behavior.Base → Type 0)
      (N : Machine M.behavior.Base M.behavior.Note) (l : Layer) (from to : Raised S) →
      slice_get file.layers (place_of M from) ≡ Some l → (place_of M to) ≡ (place_of M from) →
      T (Layered (closed_at file (place_of M from) l) N) (state_on M file (place_of M from) l from) (state_on M file (place_of M from) l to) →
      T (layer_over file (place_of M from) N) ((floor_meaning M).behavior.state file from) ((floor_meaning M).behavior.state file to)
  at_place T N l from to there place h =
      subst (λ (p : ℕ). T (layer_over file (place_of M from) N) ((floor_meaning M).behavior.state file from) (shown (slice_get file.layers p) to)) (sym place)
      (subst (λ (o : Option Layer). T (over (place_of M from) o N) (shown o from) (shown o to)) (sym there) h)

module _ {S : Type 0} (M : Meaning S) (keeps : IsLower M) (file : File) (from to : Standing (Raised S)) (name : Name) (args : List Value) (e : Ending)
    (h : CallsFloor M file from name args e to) where
  abbrev at_number : ℕ
  at_number = place_of M from.machine

  abbrev L : ClosedLayer
  L = closed_at file at_number h.layer

  abbrev implementation : Block
  implementation = h.operation.implementation

  abbrev given : Env
  given = bind h.operation.arguments args

  -- a step of the layer's operation
  of_operation : (Step : Operation → Type 0) → Step h.operation → OfOperation L name args Step
  of_operation Step step = record { operation = h.operation; is = h.is; fit = h.arguments_fit; step = step }

  module _ (g : GoesOn M file (lower_of from) (lower_of to)) where
    on_number : GoesOn (floor_meaning M) file from to
    on_number = record { number = ap suc g.number; later = g.later }

    whole_there : (cause : Cause) (notes : List M.behavior.Note) (answer : Answer) →
        BlockRuns L (M.behavior.machine cause file at_number) implementation given (state_on M file at_number h.layer from.machine) notes answer
        (state_on M file at_number h.layer to.machine) →
        (layer_over file at_number (M.behavior.machine cause file at_number)).Calls
        ((floor_meaning M).behavior.state file from.machine) name args notes answer ((floor_meaning M).behavior.state file to.machine)
    whole_there cause notes answer run =
        at_place M file (λ N s s'. N.Calls s name args notes answer s') (M.behavior.machine cause file at_number) h.layer
        from.machine to.machine h.there g.number (of_operation (λ o. BlockRuns L (M.behavior.machine cause file at_number) o.implementation
        (bind o.arguments args) (state_on M file at_number h.layer from.machine) notes answer (state_on M file at_number h.layer to.machine)) run)

    falling : (cause : Cause) (notes : List M.behavior.Note) →
        BlockFalls L (M.behavior.machine cause file at_number) implementation given (state_on M file at_number h.layer from.machine) notes
        (M.behavior.state file to.machine.below).base →
        (layer_over file at_number (M.behavior.machine cause file at_number)).Falls
        ((floor_meaning M).behavior.state file from.machine) name args notes (M.behavior.state file to.machine.below).base
    falling cause notes run =
        at_place M file (λ N s s'. N.Falls s name args notes s'.base) (M.behavior.machine cause file at_number) h.layer from.machine to.machine
        h.there g.number (of_operation (λ o. BlockFalls L (M.behavior.machine cause file at_number) o.implementation
        (bind o.arguments args) (state_on M file at_number h.layer from.machine) notes (M.behavior.state file to.machine.below).base) run)

  call_kept : (ending : Ending) → BlockKept M file at_number h.layer implementation given from to ending →
      KeepsInCall (floor_meaning M) file from to name args ending
  call_kept (Whole answer) k = record {
    goes_on = on_number k.goes_on;
    steps = record {
      notes = k.steps.notes;
      step = λ cause. whole_there k.goes_on cause k.steps.notes answer (k.steps.run cause);
      leaves = k.steps.leaves;
    };
    power = k.steps.passes;
  }
  call_kept Down k = record {
    goes_on = on_number k.goes_on;
    steps = record { notes = k.steps.notes; within = true; step = falling k.goes_on PowerLoss k.steps.notes k.steps.run; leaves = k.steps.leaves };
    power = (k.steps.passes, k.steps.named);
  }
  call_kept Failed k = record {
    goes_on = on_number k.goes_on;
    steps = (
      record {
        notes = k.steps.part.notes;
        within = true;
        step = falling k.goes_on GivenUp k.steps.part.notes k.steps.part.run;
        leaves = k.steps.part.leaves;
      },
      k.steps.rose,
    );
    power = (k.steps.passes, k.steps.unnamed);
  }
  call_kept Starved k = record {
    goes_on = on_number k.goes_on;
    steps = record { notes = k.steps.notes; within = true; step = falling k.goes_on GivenUp k.steps.notes k.steps.run; leaves = k.steps.leaves };
    power = tt;
  }

  kept_in_call : KeepsInCall (floor_meaning M) file from to name args e
  kept_in_call = call_kept e (block_kept M keeps file h.layer implementation given from to e h.run)

-- giving up between operations does nothing, in the layer neither
rests_over : {S : Type 0} (M : Meaning S) → IsLower M → (file : File) (s : Raised S) →
    (layer_over file (place_of M s) (M.behavior.machine GivenUp file (place_of M s))).Loses ((floor_meaning M).behavior.state file s) []
    (M.behavior.state file s.below).base
rests_over {S} M keeps file s = at (slice_get file.layers (place_of M s))
  where
    at : (o : Option Layer) → (over M file (place_of M s) o (M.behavior.machine GivenUp file (place_of M s))).Loses (shown M file o s) []
        (M.behavior.state file s.below).base
    at None = record { memory = _; lower = M.behavior.state file s.below; from_is = refl; falls = keeps.rests file s.below }
    at (Some l) = record { memory = _; lower = M.behavior.state file s.below; from_is = refl; falls = keeps.rests file s.below }

-- a layer on a machine below is a machine below a layer
pub floor_keeps : {S : Type 0} (M : Meaning S) → IsLower M → IsLower (floor_meaning M)
floor_keeps M keeps = record {
  calls = λ file from to name args ending h. kept_in_call M keeps file from to name args ending h;
  falls = λ file from to name args outage h. absurd h;
  loses = λ file from to outage h. absurd h;
  rests = rests_over M keeps;
  leaves_rest = λ file at. keeps.leaves_rest file (lower_of at);
  leaves_none = λ file at. keeps.leaves_none file (lower_of at);
  leaves_both = λ how file from at to first second a b. keeps.leaves_both how file (lower_of from) (lower_of at) (lower_of to) first second a b;
}
