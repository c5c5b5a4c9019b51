-- What runs of a block over terms are worth: in every environment the run that it names, and each run in some environment.
use Rattle.std.specs.Prelude.{◌≡◌, ◌<◌, ◌*◌, ◌+◌, ℕ, Bool, true, false, IsTrue, if◌then◌else◌, List, [], is_some, Option, Some, None}
use Rattle.ygg_meaning.specs.Environments.{Env}
use Rattle.ygg_meaning.specs.Layer.{BlockRuns, BlockFalls}
use Rattle.ygg_meaning.specs.Machine.{Picks, State, on, based}
use Rattle.ygg_meaning.specs.Obligations.{Halt}
use Rattle.ygg_meaning.specs.Progress.{Answer}
use Rattle.ygg_meaning.specs.Refines.{machine_below}
use Rattle.ygg_meaning.specs.Shapes.{env_fits}
use Rattle.ygg_meaning.specs.Spec.{block_outcome, chosen}
use Rattle.ygg_bank.specs.Values.{Inputs, Values, Fits}
use Rattle.ygg_bank.specs.declared.node.Node.{Node}
use Rattle.ygg_sym_runs.specs.Meaning.{answer_worth, is_set}
use Rattle.ygg_sym_runs.specs.Laws.{picked_by}
use Rattle.ygg_sym_runs.specs.Lows.{low_worth}
use Rattle.ygg_sym_runs.specs.Stops.{halt}
use Rattle.ygg_sym_laws.specs.Below.{failure_room}
use Rattle.ygg_sym_spec.specs.Picking.{bit_in}
use Rattle.ygg_sym_laws.specs.Fronts.{fall_picks, loss_picks, run_picks, run_stop}
use Rattle.ygg_sym_laws.specs.FrontLaws.{FallsThere}
use Rattle.ygg_sym_laws.specs.Taking.{block_takes}
use Rattle.ygg_sym_bodies.specs.Runs.{calls_of, places_of}
use Rattle.ygg_sym_bodies.specs.Sites.{Site}
use Rattle.ygg_sym_bodies.specs.declared.state.SymRun.{SymRun}
use Rattle.ygg_sym_bodies.specs.declared.state.SymState.{SymState}

-- the bit of each place: of the picks that are given, which go on with 0, or of the inputs from a number on
abbrev pub bits_named : Inputs → Option Picks → ℕ → ℕ → Bool
bits_named inputs (Some given) first i = bit_in i given
bits_named inputs None first i = picked_by inputs first i

-- so many bits are the same
abbrev pub SameBits : ℕ → (ℕ → Bool) → (ℕ → Bool) → Type 0
SameBits count bits others = (i : ℕ) → i < count → bits i ≡ others i

module _ (v : Values) (s : Site) (st : SymState) where
  -- what the variables, the arguments and the state below are worth
  abbrev pub vars_worth : Env
  vars_worth = low_worth v s.vars st.vars

  abbrev pub args_worth : Env
  args_worth = low_worth v s.args st.args

  abbrev pub below_worth : Env
  below_worth = low_worth v (s.layer).low st.low

  -- and the layer's state
  abbrev pub state_worth : State Env
  state_worth = on vars_worth (based below_worth)

  -- they are these
  pub record AreWorth (vars args low : Env) : Type 0 where
    pub vars_are : vars_worth ≡ vars
    pub args_are : args_worth ≡ args
    pub low_is : below_worth ≡ low

module _ (s : Site) (vars args low : Env) where
  -- a whole run of a block on no machine, with exactly these picks; what is below stays
  pub record Chooses (picks : Picks) (answer : Answer) (to : State Env) : Type 0 where
    pub vars' : Env
    pub gives : block_outcome s.layer s.block vars args (chosen picks) ≡ Some (record { vars = vars'; answer = answer; left = [] })
    pub to_is : to ≡ on vars' (based low)

  -- a whole run of the block over these variables, arguments and this state below, with these picks: on the machine below if it may call that
  abbrev pub Runs : Bool → Picks → Answer → State Env → Type 0
  Runs true picks answer to = BlockRuns s.layer (machine_below s.below) s.block args (on vars (based low)) picks answer to
  Runs false picks answer to = Chooses picks answer to

  -- the picks that the run takes, from the front, where those of places are these
  abbrev pub run_takes : Bool → (ℕ → Bool) → Picks
  run_takes true bits = run_picks s.below s.layer s.block vars args low bits
  run_takes false bits = block_takes s.layer bits s.block vars args

  -- where power cuts the run: at the first stop that is set of those that it comes to; none where it comes to none that is set
  abbrev pub stop_at : Bool → (ℕ → Bool) → (ℕ → Bool) → Option Halt
  stop_at true bits stops = run_stop s.below s.layer s.block vars args low bits stops
  stop_at false bits stops = if stops 0 then Some (halt false 0) else None

  -- the picks of the run up to a stop, and those of the failure there, from the front
  abbrev pub fall_takes : Bool → (ℕ → Bool) → (ℕ → Bool) → Halt → Picks
  fall_takes true bits last stop = fall_picks s.below s.layer s.block vars args low bits last stop
  fall_takes false bits last stop = loss_picks s.below last low

module _ (s : Site) (from : SymState) (given : Option Picks) (r : SymRun) (nodes : List Node) where
  -- in an environment a whole run over terms is worth the run with the picks that it names by place
  pub record WorthRun (inputs : Inputs) (v : Values) : Type 0 where
    pub run : Runs s (vars_worth v s from) (args_worth v s from) (below_worth v s from) s.calls
        (run_takes s (vars_worth v s from) (args_worth v s from) (below_worth v s from) s.calls (bits_named inputs given r.inputs.picks))
        (answer_worth v r.answer) (state_worth v s r.after)
    pub args_stay : args_worth v s r.after ≡ args_worth v s from
    pub reached : is_set v r.reached ≡ true

  -- so it is in every environment
  abbrev pub RunsAsNamed : Type 0
  RunsAsNamed = (inputs : Inputs) (v : Values) → Fits inputs v nodes → WorthRun inputs v

  -- and each run is its worth in the environments with certain picks
  abbrev pub RunsAsAny : Type 0
  RunsAsAny =
      (vars args low : Env) (picks : Picks) (answer : Answer) (to : State Env) → Runs s vars args low s.calls picks answer to →
      (bits : ℕ → Bool) × ((inputs : Inputs) (v : Values) → Fits inputs v nodes → AreWorth v s from vars args low →
      SameBits (places_of s s.calls) (bits_named inputs given r.inputs.picks) bits →
      (answer_worth v r.answer ≡ answer) × (state_worth v s r.after ≡ to))

-- the picks, the stops and the picks of the failure that a run which power cuts has, by place
pub record CutBits : Type 0 where
  pub picks : ℕ → Bool
  pub stops : ℕ → Bool
  pub failure : ℕ → Bool

module _ (s : Site) (from : SymState) (r : SymRun) (nodes : List Node) where
  -- In an environment a run over terms that power cuts comes to a stop that is set just where the run with the picks that it names does, and then leaves
  -- what power leaves of that run at the first such stop.
  pub record WorthCut (inputs : Inputs) (v : Values) : Type 0 where
    pub reached : is_set v r.reached ≡ is_some (stop_at s (vars_worth v s from) (args_worth v s from) (below_worth v s from) s.calls
        (picked_by inputs r.inputs.picks) (picked_by inputs r.inputs.stops))
    pub falls : (stop : Halt) → stop_at s (vars_worth v s from) (args_worth v s from) (below_worth v s from) s.calls
        (picked_by inputs r.inputs.picks) (picked_by inputs r.inputs.stops) ≡ Some stop →
        FallsThere s.below s.layer s.block (vars_worth v s from) (args_worth v s from) (below_worth v s from) stop
        (fall_takes s (vars_worth v s from) (args_worth v s from) (below_worth v s from) s.calls (picked_by inputs r.inputs.picks)
        (picked_by inputs r.inputs.failure) stop) (below_worth v s r.after)

  -- so it is in every environment
  abbrev pub CutsAsNamed : Type 0
  CutsAsNamed = (inputs : Inputs) (v : Values) → Fits inputs v nodes → WorthCut inputs v

  -- the inputs are these bits
  pub record AreCutBits (inputs : Inputs) (bits : CutBits) : Type 0 where
    pub picks : SameBits (calls_of s s.calls) (picked_by inputs r.inputs.picks) bits.picks
    pub stops : SameBits (2 * calls_of s s.calls + 1) (picked_by inputs r.inputs.stops) bits.stops
    pub failure : SameBits (failure_room s.below) (picked_by inputs r.inputs.failure) bits.failure

  -- and each run that power cuts, from a state below of the declared shapes, is its worth in the environments with certain picks and stops
  abbrev pub CutsAsAny : Type 0
  CutsAsAny =
      (vars args low : Env) (picks : Picks) (fallen : Env) → IsTrue (env_fits (s.layer).low low) →
      BlockFalls s.layer (machine_below s.below) s.block args (on vars (based low)) picks fallen →
      (bits : CutBits) × ((inputs : Inputs) (v : Values) → Fits inputs v nodes → AreWorth v s from vars args low → AreCutBits inputs bits →
      (is_set v r.reached ≡ true) × (below_worth v s r.after ≡ fallen))
