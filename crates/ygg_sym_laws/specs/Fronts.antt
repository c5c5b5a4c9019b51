-- Runs of a layer's blocks with picks by place, and the picks that they take, from the front.
use Rattle.std.specs.Prelude.{ℕ, zero, suc, Bool, false, if◌then◌else◌, List, [], ◌∷◌, ◌++◌, length, take, Option, Some, None}
use Rattle.ygg_syntax.specs.declared.tree.Block.{Block}
use Rattle.ygg_sym_laws.specs.ygg_disk.Kinds.{model_of}
use Rattle.ygg_sym_laws.specs.ygg_meaning.DiskMachine.{tables_in, zeros_on}
use Rattle.ygg_sym_laws.specs.ygg_meaning.Environments.{Env}
use Rattle.ygg_sym_laws.specs.ygg_meaning.Layer.{ClosedLayer, eval_of}
use Rattle.ygg_sym_laws.specs.ygg_meaning.Machine.{Picks, State, on, based}
use Rattle.ygg_sym_laws.specs.ygg_meaning.Obligations.{Halt}
use Rattle.ygg_sym_laws.specs.ygg_meaning.Progress.{Question, Answer, answer_of}
use Rattle.ygg_sym_laws.specs.ygg_meaning.Refines.{Below, OnDisk, OnSpec}
use Rattle.ygg_sym_laws.specs.ygg_meaning.Spec.{Outcome, start_outcome}
use Rattle.ygg_sym_laws.specs.ygg_meaning_laws.Direct.{Handled, Event, Reached, direct_run}
use Rattle.ygg_sym_laws.specs.ygg_meaning_laws.DiskActs.{disk_acts}
use Rattle.ygg_sym_laws.specs.ygg_meaning_laws.RunPlaces.{base_at, asked_in, cut_by}
use Rattle.ygg_sym_laws.specs.ygg_sym_runs.Stops.{first_stop}
use Rattle.ygg_sym_laws.specs.ygg_sym_runs_proofs_Disks.{disk_at}
use Rattle.ygg_sym_laws.specs.ygg_sym_runs_proofs_SpecFalls.{cut_end, lose_end}
use Rattle.ygg_sym_laws.specs.ygg_sym_runs_proofs_SpecMeans.{spec_at}
use Rattle.ygg_sym_laws.specs.Below.{space_on, places_on}
use Rattle.ygg_sym_laws.specs.Taking.{Takes, picks_of, disk_takes, disk_cut_takes, spec_takes, crash_takes, spec_cut_takes}

-- What a layer is specified over, as a machine whose choices take the bits of their places.
abbrev pub handle_on : Below → (ℕ → Bool) → ℕ → Question → State Env → Handled (State Env)
handle_on (OnDisk d) bits = disk_at false d bits
handle_on (OnSpec m) bits = spec_at m bits

-- the picks that it takes
abbrev pub takes_on : Below → (ℕ → Bool) → Takes (State Env)
takes_on (OnDisk d) bits = disk_takes d bits
takes_on (OnSpec m) bits = spec_takes m bits

-- power fails within what is asked of it, with bits of the failure's own
abbrev pub cut_on : Below → (ℕ → Bool) → Question → State Env → Env
cut_on (OnDisk d) last = cut_by (disk_acts false d) (last 0 ∷ [])
cut_on (OnSpec m) last = cut_end m last

-- the picks that this takes
abbrev pub cut_takes_on : Below → (ℕ → Bool) → Question → State Env → Picks
cut_takes_on (OnDisk d) last = disk_cut_takes last
cut_takes_on (OnSpec m) last = spec_cut_takes m last

-- power fails between questions, with bits of the failure's own
abbrev pub lose_on : Below → (ℕ → Bool) → State Env → Env
lose_on (OnDisk d) last z = ((disk_acts false d).loses z (last 0 ∷ [])).base
lose_on (OnSpec m) last z = lose_end m last z

-- the picks that this takes
abbrev pub lose_takes_on : Below → (ℕ → Bool) → State Env → Picks
lose_takes_on (OnDisk d) last z = []
lose_takes_on (OnSpec m) last z = crash_takes m last z.base

-- the picks of the questions before a stop, and then those of the failure there
abbrev pub stopped_picks : {S : Type 0} → Takes S → (Question → S → Picks) → (S → Picks) → Bool → List (Event S) → ℕ → S → Picks
stopped_picks takes cut lose within [] zero end = if within then [] else lose end
stopped_picks takes cut lose within [] (suc n) end = []
stopped_picks takes cut lose within (e ∷ es) zero end = if within then cut e.question e.before else lose e.before
stopped_picks takes cut lose within (e ∷ es) (suc n) end =
    takes e.place e.question e.before ++ stopped_picks takes cut lose within es n end

-- the picks of power loss between operations
abbrev pub loss_picks : Below → (ℕ → Bool) → Env → Picks
loss_picks G last low = lose_takes_on G last (based low)

-- the variables that an outcome has
abbrev pub vars_in : Option Outcome → Env
vars_in None = []
vars_in (Some o) = o.vars

-- the state below at its start: the tables of a disk that is all zeros, or what the `start` block of a specification leaves
abbrev pub low_at_start : Below → Env
low_at_start (OnDisk d) = tables_in d.kind ((model_of d.kind).start (zeros_on d))
low_at_start (OnSpec m) = vars_in (start_outcome m)

-- a block of a layer over its memory, its arguments and the state below
module _ (G : Below) (L : ClosedLayer) (b : Block) (memory given low : Env) where
  -- the run of the block with these bits by place
  abbrev pub run_by_place : (ℕ → Bool) → Reached (State Env)
  run_by_place bits = direct_run (eval_of L) (space_on G) (handle_on G bits) b (memory ++ given) (based low)

  -- what it answers
  abbrev pub answer_by_place : (ℕ → Bool) → Answer
  answer_by_place bits = answer_of (eval_of L) b.answer (run_by_place bits).env

  -- the layer's state after it
  abbrev pub state_by_place : (ℕ → Bool) → State Env
  state_by_place bits = let r = run_by_place bits in on (take (length memory) r.env) r.to

  -- the picks that it takes, from the front
  abbrev pub run_picks : (ℕ → Bool) → Picks
  run_picks bits = picks_of (takes_on G bits) (run_by_place bits).events

  -- where power cuts the run: at the first stop that is set of those that it comes to; none where it comes to none that is set
  abbrev pub run_stop : (ℕ → Bool) → (ℕ → Bool) → Option Halt
  run_stop bits stops = first_stop stops (run_by_place bits).events (places_on G b)

  -- what power leaves of the run at a stop, with bits of the failure's own; none where the run has no such stop
  abbrev pub left_at : (ℕ → Bool) → (ℕ → Bool) → Halt → Option Env
  left_at bits last stop =
      let r = run_by_place bits in base_at (cut_on G last) (lose_on G last) stop.within (asked_in r.events) stop.event r.to

  -- the picks of the run up to a stop, and those of the failure there, from the front
  abbrev pub fall_picks : (ℕ → Bool) → (ℕ → Bool) → Halt → Picks
  fall_picks bits last stop =
      let r = run_by_place bits in
      stopped_picks (takes_on G bits) (cut_takes_on G last) (lose_takes_on G last) stop.within r.events stop.event r.to
