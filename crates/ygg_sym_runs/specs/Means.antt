-- What runs over terms on what a layer is specified over are worth: in each environment some concrete run, and each concrete run in some environment.
use Rattle.std.specs.Prelude.{◌≡◌, ◌<◌, ◌≤◌, ◌+◌, ◌*◌, ℕ, Bool, true, IsTrue, List, map, reverse, Option}
use Rattle.ygg_value.specs.declared.shape.Shape.{Shape}
use Rattle.ygg_syntax.specs.declared.tree.Declared.{Declared}
use Rattle.ygg_syntax.specs.declared.tree.Def.{Def}
use Rattle.ygg_syntax.specs.declared.tree.Block.{Block}
use Rattle.ygg_sym_runs.specs.ygg_meaning.Environments.{Env}
use Rattle.ygg_sym_runs.specs.ygg_meaning.Shapes.{env_fits}
use Rattle.ygg_sym_runs.specs.ygg_meaning.Progress.{Answer}
use Rattle.ygg_sym_runs.specs.ygg_meaning.Machine.{Picks, State, based, on}
use Rattle.ygg_sym_runs.specs.ygg_meaning.Layer.{ClosedLayer, BlockRuns, BlockFalls}
use Rattle.ygg_sym_runs.specs.ygg_meaning.Refines.{Below, machine_below}
use Rattle.ygg_sym_runs.specs.Blocks.{is_returned}
use Rattle.ygg_sym_runs.specs.ygg_rules.declared.rule.RuleKind.{RuleKind}
use Rattle.ygg_sym_runs.specs.ygg_bank.Inputs.{InputsBelow}
use Rattle.ygg_sym_runs.specs.ygg_bank.Makes.{Make}
use Rattle.ygg_sym_runs.specs.ygg_bank.Nodes.{HasWidth}
use Rattle.ygg_sym_runs.specs.ygg_bank.Values.{Inputs, Values, Fits}
use Rattle.ygg_sym_runs.specs.ygg_bank.declared.node.Node.{Node}
use Rattle.ygg_sym_runs.specs.ygg_shape_cells.declared.terms.SymValue.{SymValue}
use Rattle.ygg_sym_runs.specs.Names.{SymEnv, sym_bind}
use Rattle.ygg_sym_runs.specs.Exprs.{SymFunctions, sym_functions}
use Rattle.ygg_sym_runs.specs.ExpressionMeaning.{Grows}
use Rattle.ygg_sym_runs.specs.Meaning.{AnswerShaped, answer_worth, is_set}
use Rattle.ygg_sym_runs.specs.Lows.{LowShaped, low_worth}
use Rattle.ygg_sym_runs.specs.StopTerms.{SymFallen}
use Rattle.ygg_sym_runs.specs.Wholes.{SymFinish}
use Rattle.ygg_sym_runs.specs.Laws.{picked_by}
use Rattle.ygg_sym_runs.specs.Below.{places_on, failure_room, run_made, cut_made, lost_made, lows_at_start}

-- so many inputs, from a number on, are these bits
abbrev pub AreBits : Inputs → ℕ → ℕ → (ℕ → Bool) → Type 0
AreBits inputs first count bits = (i : ℕ) → i < count → picked_by inputs first i ≡ bits i

-- the values of names, in order
abbrev pub values_in : SymEnv → List SymValue
values_in = map (λ b. b.1)

-- the terms of a file's definitions
abbrev pub terms_of : List RuleKind → List Def → SymFunctions
terms_of kinds defs = sym_functions kinds (reverse defs)

-- values of terms that a run begins with: of variables, of arguments and of the state below
pub record Values3 : Type 0 where
  pub vars : List SymValue
  pub args : List SymValue
  pub low : List SymValue

-- what a layer's blocks are run over: the layer, what it is specified over, and the definitions
module _ (kinds : List RuleKind) (defs : List Def) (G : Below) (L : ClosedLayer) where
  -- power loss between operations: what it leaves
  pub record LossMeans : Type 0 where
    pub after : (inputs : Inputs) (v : Values) (last : ℕ) (low : List SymValue) (nodes : List Node) → LowShaped nodes L.low low →
        let out = lost_made kinds (terms_of kinds defs) G last low nodes in
        Fits inputs v out.nodes → LowShaped out.nodes L.low out.value
    pub sound : (inputs : Inputs) (v : Values) (last : ℕ) (low : List SymValue) (nodes : List Node) → LowShaped nodes L.low low →
        let out = lost_made kinds (terms_of kinds defs) G last low nodes in
        Fits inputs v out.nodes → (taken : Picks) × (machine_below G).Loses (based (low_worth v L.low low)) taken (low_worth v L.low out.value)
    pub back : (base fallen : Env) (taken : Picks) → IsTrue (env_fits L.low base) → (machine_below G).Loses (based base) taken fallen →
        (bits : ℕ → Bool) × ((inputs : Inputs) (v : Values) (last : ℕ) (low : List SymValue) (nodes : List Node) → LowShaped nodes L.low low →
        let out = lost_made kinds (terms_of kinds defs) G last low nodes in
        Fits inputs v out.nodes → low_worth v L.low low ≡ base → AreBits inputs last (failure_room G) bits → low_worth v L.low out.value ≡ fallen)
    pub grows : (last : ℕ) (low : List SymValue) → Grows (lost_made kinds (terms_of kinds defs) G last low)
    pub inputs_below : (last next : ℕ) (low : List SymValue) (nodes : List Node) → InputsBelow next nodes → last + failure_room G ≤ next →
        InputsBelow next (lost_made kinds (terms_of kinds defs) G last low nodes).nodes

  -- the state below at its start: it is the one start state
  pub record StartMeans : Type 0 where
    pub after : (inputs : Inputs) (v : Values) (nodes : List Node) →
        let out = lows_at_start kinds (terms_of kinds defs) G nodes in
        Fits inputs v out.nodes → LowShaped out.nodes L.low out.value
    pub sound : (inputs : Inputs) (v : Values) (nodes : List Node) →
        let out = lows_at_start kinds (terms_of kinds defs) G nodes in
        Fits inputs v out.nodes → (taken : Picks) × (machine_below G).Starts (based (low_worth v L.low out.value)) taken
    pub back : (s : State Env) (taken : Picks) → (machine_below G).Starts s taken → (inputs : Inputs) (v : Values) (nodes : List Node) →
        let out = lows_at_start kinds (terms_of kinds defs) G nodes in
        Fits inputs v out.nodes → s ≡ based (low_worth v L.low out.value)
    pub grows : Grows (lows_at_start kinds (terms_of kinds defs) G)
    pub inputs_below : (next : ℕ) (nodes : List Node) → InputsBelow next nodes → InputsBelow next (lows_at_start kinds (terms_of kinds defs) G nodes).nodes

  module _ (b : Block) (vars args : List Declared) where
    -- values of the declared shapes among the nodes
    pub record Begins (nodes : List Node) (x : Values3) : Type 0 where
      pub vars_are : LowShaped nodes vars x.vars
      pub args_are : LowShaped nodes args x.args
      pub low_are : LowShaped nodes L.low x.low

    -- under a valuation they are these
    pub record AreWorth (v : Values) (x : Values3) (memory given low : Env) : Type 0 where
      pub vars_is : low_worth v vars x.vars ≡ memory
      pub args_is : low_worth v args x.args ≡ given
      pub low_is : low_worth v L.low x.low ≡ low

    -- a whole run of the block over terms
    abbrev pub whole_run : ℕ → Values3 → Make (SymFinish (List SymValue))
    whole_run first x = run_made kinds (terms_of kinds defs) G first b (sym_bind vars x.vars) (sym_bind args x.args) x.low

    -- a run of the block over terms that power cuts
    abbrev pub cut_run : ℕ → ℕ → ℕ → Values3 → Make (SymFallen (List SymValue))
    cut_run first stop last x = cut_made kinds (terms_of kinds defs) G first stop last b (sym_bind vars x.vars) (sym_bind args x.args) x.low

    -- what a whole run leaves: the variables under their names, with values of their shapes, and an answer of this shape
    pub record WholeAfter (shape : Option Shape) (v : Values) (nodes : List Node) (out : SymFinish (List SymValue)) : Type 0 where
      pub named : out.vars ≡ sym_bind vars (values_in out.vars)
      pub vars_are : LowShaped nodes vars (values_in out.vars)
      pub low_are : LowShaped nodes L.low out.to
      pub answer_shaped : AnswerShaped nodes out.answer
      pub answer_returned : IsTrue (is_returned b.answer shape (answer_worth v out.answer))

    -- the concrete run that a whole run over terms is worth
    pub record WorthRun (v : Values) (x : Values3) (out : SymFinish (List SymValue)) : Type 0 where
      pub taken : Picks
      pub run : BlockRuns L (machine_below G) b (low_worth v args x.args) (on (low_worth v vars x.vars) (based (low_worth v L.low x.low))) taken
          (answer_worth v out.answer) (on (low_worth v vars (values_in out.vars)) (based (low_worth v L.low out.to)))

    -- a whole run over terms ends so
    pub record EndsSo (v : Values) (answer : Answer) (to : State Env) (out : SymFinish (List SymValue)) : Type 0 where
      pub answer_is : answer_worth v out.answer ≡ answer
      pub to_is : on (low_worth v vars (values_in out.vars)) (based (low_worth v L.low out.to)) ≡ to

    -- What whole runs of the block over terms leave and are worth.
    pub record WholeMeans (shape : Option Shape) : Type 0 where
      pub after : (inputs : Inputs) (v : Values) (first : ℕ) (x : Values3) (nodes : List Node) → Begins nodes x →
          let out = whole_run first x nodes in Fits inputs v out.nodes → WholeAfter shape v out.nodes out.value
      -- in each environment some run
      pub sound : (inputs : Inputs) (v : Values) (first : ℕ) (x : Values3) (nodes : List Node) → Begins nodes x →
          let out = whole_run first x nodes in Fits inputs v out.nodes → WorthRun v x out.value
      -- each run, in the environments with certain picks
      pub back : (memory given low : Env) (taken : Picks) (answer : Answer) (to : State Env) →
          BlockRuns L (machine_below G) b given (on memory (based low)) taken answer to →
          (bits : ℕ → Bool) × ((inputs : Inputs) (v : Values) (first : ℕ) (x : Values3) (nodes : List Node) → Begins nodes x →
          let out = whole_run first x nodes in
          Fits inputs v out.nodes → AreWorth v x memory given low → AreBits inputs first (places_on G b) bits → EndsSo v answer to out.value)
      pub grows : (first : ℕ) (x : Values3) → Grows (whole_run first x)
      pub inputs_below : (first next : ℕ) (x : Values3) (nodes : List Node) → InputsBelow next nodes → first + places_on G b ≤ next →
          InputsBelow next (whole_run first x nodes).nodes

    -- the concrete run that a run over terms is worth which power cuts
    pub record WorthFall (v : Values) (x : Values3) (out : SymFallen (List SymValue)) : Type 0 where
      pub taken : Picks
      pub run : BlockFalls L (machine_below G) b (low_worth v args x.args) (on (low_worth v vars x.vars) (based (low_worth v L.low x.low))) taken
          (low_worth v L.low out.fallen)

    -- the picks, the stops and the picks of the failure that a run which power cuts has
    pub record FallBits : Type 0 where
      pub run_bits : ℕ → Bool
      pub stop_bits : ℕ → Bool
      pub last_bits : ℕ → Bool

    -- the inputs are these
    pub record AreFallBits (inputs : Inputs) (first stop last : ℕ) (bits : FallBits) : Type 0 where
      pub run_is : AreBits inputs first (places_on G b) bits.run_bits
      pub stop_is : AreBits inputs stop (2 * places_on G b + 1) bits.stop_bits
      pub last_is : AreBits inputs last (failure_room G) bits.last_bits

    -- a run over terms that power cuts comes to a stop that is set, and leaves this
    pub record FallsTo (v : Values) (fallen : Env) (out : SymFallen (List SymValue)) : Type 0 where
      pub reached : is_set v out.reached ≡ true
      pub fallen_is : low_worth v L.low out.fallen ≡ fallen

    -- What runs of the block over terms leave that power cuts, and what they are worth.
    pub record FallMeans : Type 0 where
      pub after : (inputs : Inputs) (v : Values) (first stop last : ℕ) (x : Values3) (nodes : List Node) → Begins nodes x →
          let out = cut_run first stop last x nodes in
          Fits inputs v out.nodes → HasWidth out.nodes out.value.reached 1 × LowShaped out.nodes L.low out.value.fallen
      -- in each environment in which the run comes to a stop that is set, some run
      pub sound : (inputs : Inputs) (v : Values) (first stop last : ℕ) (x : Values3) (nodes : List Node) → Begins nodes x →
          let out = cut_run first stop last x nodes in
          Fits inputs v out.nodes → is_set v out.value.reached ≡ true → WorthFall v x out.value
      -- each run, in the environments with certain picks and stops
      pub back : (memory given low : Env) (taken : Picks) (fallen : Env) → BlockFalls L (machine_below G) b given (on memory (based low)) taken fallen →
          (bits : FallBits) × ((inputs : Inputs) (v : Values) (first stop last : ℕ) (x : Values3) (nodes : List Node) → Begins nodes x →
          let out = cut_run first stop last x nodes in
          Fits inputs v out.nodes → AreWorth v x memory given low → AreFallBits inputs first stop last bits → FallsTo v fallen out.value)
      pub grows : (first stop last : ℕ) (x : Values3) → Grows (cut_run first stop last x)
      pub inputs_below : (first stop last next : ℕ) (x : Values3) (nodes : List Node) → InputsBelow next nodes →
          first + places_on G b ≤ next → stop + (2 * places_on G b + 1) ≤ next → last + failure_room G ≤ next →
          InputsBelow next (cut_run first stop last x nodes).nodes
