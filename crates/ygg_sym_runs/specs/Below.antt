-- What a layer is specified over, over terms: the disk, or the specification of the layer below.
use Rattle.std.specs.Prelude.{ℕ, List, [], ◌∷◌, map}
use Rattle.ygg_syntax.specs.declared.tree.Declared.{Declared}
use Rattle.ygg_syntax.specs.declared.tree.Block.{Block}
use Rattle.ygg_sym_runs.specs.ygg_type_rules.Names.{Named}
use Rattle.ygg_sym_runs.specs.ygg_type_rules.declared.scope.Signature.{Signature}
use Rattle.ygg_sym_runs.specs.ygg_type_rules.Files.{disk_operations}
use Rattle.ygg_sym_runs.specs.ygg_meaning.Environments.{Name}
use Rattle.ygg_sym_runs.specs.ygg_meaning.Shapes.{shape_in}
use Rattle.ygg_sym_runs.specs.ygg_meaning.Refines.{Below, OnDisk, OnSpec}
use Rattle.ygg_sym_runs.specs.ygg_meaning.Stack.{tables_of}
use Rattle.ygg_sym_runs.specs.ygg_type_rules.Layers.{operation_signature}
use Rattle.ygg_syntax.specs.declared.tree.Operation.{Operation}
use Rattle.ygg_sym_runs.specs.ygg_meaning.Layer.{ClosedLayer}
use Rattle.ygg_sym_runs.specs.ygg_rules.declared.rule.RuleKind.{RuleKind}
use Rattle.ygg_sym_runs.specs.ygg_bank.Makes.{Make, pure, and_make}
use Rattle.ygg_sym_runs.specs.ygg_shape_cells.declared.terms.SymValue.{SymValue}
use Rattle.ygg_sym_runs.specs.ygg_shape.Wholes.{zero_made}
use Rattle.ygg_sym_runs.specs.Direct.{room_of}
use Rattle.ygg_sym_runs.specs.RunPlaces.{disk_space, spec_space}
use Rattle.ygg_sym_runs.specs.Names.{SymEnv}
use Rattle.ygg_sym_runs.specs.Exprs.{SymFunctions}
use Rattle.ygg_sym_runs.specs.Runs.{SymMachine}
use Rattle.ygg_sym_runs.specs.Disks.{sym_disk}
use Rattle.ygg_sym_runs.specs.Cuts.{disk_loses, disk_stops}
use Rattle.ygg_sym_runs.specs.Specs.{input_pick, given_pick, sym_spec}
use Rattle.ygg_sym_runs.specs.SpecCuts.{block_made, crash_made, spec_stops, fall_room}
use Rattle.ygg_sym_runs.specs.StopTerms.{Stops, SymFallen, stop_whole}
use Rattle.ygg_sym_runs.specs.Wholes.{SymFinish, sym_whole}

-- the variables of its state: the disk's tables, or the specification's variables
abbrev pub lows_on : Below → List Declared
lows_on (OnDisk d) = tables_of d
lows_on (OnSpec m) = m.layer.state

-- what operations take and give, by name, in order
abbrev pub signatures_of : List Operation → Named Signature
signatures_of = map (λ (o : Operation). (o.name.text, operation_signature o))

-- its operations
abbrev pub signatures_on : Below → Named Signature
signatures_on (OnDisk d) = disk_operations d
signatures_on (OnSpec m) = signatures_of m.layer.operations

-- how many places a call of it has
abbrev pub space_on : Below → Name → ℕ
space_on (OnDisk d) = disk_space
space_on (OnSpec m) = spec_space m

-- how many places a block on it has
abbrev pub places_on : Below → Block → ℕ
places_on G = room_of (space_on G)

-- how many inputs the picks of a power failure have
abbrev pub failure_room : Below → ℕ
failure_room (OnDisk d) = 1
failure_room (OnSpec m) = fall_room m

module _ (kinds : List RuleKind) where
  -- zeros for declared names
  abbrev pub zeros_made : List Declared → Make (List SymValue)
  zeros_made [] = pure []
  zeros_made (d ∷ ds) = and_make (zero_made kinds (shape_in d.shape)) (λ x. and_make (zeros_made ds) (λ xs. pure (x ∷ xs)))

module _ (kinds : List RuleKind) (terms : SymFunctions) where
  -- variables of a specification at its start
  abbrev pub start_made : ClosedLayer → Make (List SymValue)
  start_made m =
      and_make (zeros_made kinds m.layer.state) (λ zeros. and_make (block_made kinds terms m (given_pick kinds []) m.layer.start zeros []) (λ d. pure d.to))

  -- its state at the start
  abbrev pub lows_at_start : Below → Make (List SymValue)
  lows_at_start (OnDisk d) = zeros_made kinds (tables_of d)
  lows_at_start (OnSpec m) = start_made m

  -- its machine over terms, whose picks have the inputs from a number on, by place
  abbrev pub machine_on : Below → ℕ → SymMachine (List SymValue)
  machine_on (OnDisk d) first = sym_disk kinds d.kind first
  machine_on (OnSpec m) first = sym_spec kinds terms m (input_pick kinds first)

  -- the stops of runs on it: one input for each from a number on, and those of the failure's picks from another number on
  abbrev pub stops_on : Below → ℕ → ℕ → Stops (List SymValue) (List SymValue)
  stops_on (OnDisk d) stop last = disk_stops kinds d.kind stop last
  stops_on (OnSpec m) stop last = spec_stops kinds terms m stop last

  -- what power loss between operations leaves, whose picks have the inputs from a number on
  abbrev pub lost_made : Below → ℕ → List SymValue → Make (List SymValue)
  lost_made (OnDisk d) last tables = pure (disk_loses d.kind tables)
  lost_made (OnSpec m) last vars = crash_made kinds terms m (input_pick kinds last) vars

  -- a whole run of a block on it
  abbrev pub run_made : Below → ℕ → Block → SymEnv → SymEnv → List SymValue → Make (SymFinish (List SymValue))
  run_made G first b vars args from = sym_whole kinds terms (machine_on G first) b vars args from

  -- what power leaves of a run of a block on it, and whether the run comes to a stop that is set
  abbrev pub cut_made : Below → ℕ → ℕ → ℕ → Block → SymEnv → SymEnv → List SymValue → Make (SymFallen (List SymValue))
  cut_made G first stop last b vars args from =
      stop_whole kinds terms (machine_on G first) (stops_on G stop last) (places_on G b) b vars args from from
