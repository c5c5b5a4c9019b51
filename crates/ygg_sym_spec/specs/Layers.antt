-- A layer's specification in code, and what a block of it wants.
use Rattle.std.specs.Prelude.{◌≡◌, IsTrue, List, [], Some}
use Rattle.ygg_syntax.specs.declared.tree.Block.{Block}
use Rattle.ygg_syntax.specs.declared.tree.Declared.{Declared}
use Rattle.ygg_syntax.specs.declared.tree.Operation.{Operation}
use Rattle.ygg_sym_runs.specs.ygg_type_rules.TypeErrors.{none}
use Rattle.ygg_sym_runs.specs.ygg_type_rules.Definitions.{definitions_errors}
use Rattle.ygg_sym_runs.specs.ygg_meaning.Environments.{Name}
use Rattle.ygg_sym_runs.specs.ygg_meaning.Layer.{ClosedLayer, operation_of}
use Rattle.ygg_sym_runs.specs.ygg_meaning.Meaning.{functions_of}
use Rattle.ygg_sym_runs.specs.ygg_rules.declared.rule.RuleKind.{RuleKind}
use Rattle.ygg_sym_runs.specs.ygg_bank.Makes.{Make}
use Rattle.ygg_sym_runs.specs.ygg_bank.declared.node.Node.{Node}
use Rattle.ygg_sym_runs.specs.ygg_shape_cells.declared.terms.SymValue.{SymValue}
use Rattle.ygg_sym_runs.specs.Names.{sym_bind}
use Rattle.ygg_sym_runs.specs.Exprs.{SymFunctions}
use Rattle.ygg_sym_runs.specs.Lower.{SingleFrom}
use Rattle.ygg_sym_runs.specs.Disks.{Done}
use Rattle.ygg_sym_runs.specs.Lows.{LowShaped}
use Rattle.ygg_sym_runs.specs.SpecCuts.{block_made, crash_made, then_crash_made, fall_made, fall_asked}
use Rattle.ygg_sym_runs.specs.Means.{terms_of}
use Rattle.ygg_sym_runs.specs.Typed.{OperationTyped, SpecBlockTyped, SpecTyped}
use Rattle.ygg_sym_spec.specs.Picking.{first_number, picking}
use Rattle.ygg_sym_spec.specs.declared.layer.SymLayer.{SymLayer}
use Rattle.ygg_sym_spec.specs.declared.picks.SymPicks.{SymPicks}

-- the layer with the file's definitions
abbrev pub closed : SymLayer → ClosedLayer
closed l = record { functions = functions_of l.defs.now; layer = l.layer.now; low = l.low.now }

-- the terms of the file's definitions
abbrev pub terms_in : List RuleKind → SymLayer → SymFunctions
terms_in kinds l = terms_of kinds l.defs.now

-- a specification without a type error
pub record SpecServes (l : SymLayer) : Type 0 where
  pub sound : IsTrue (none (definitions_errors l.defs.now [] []))
  pub typed : SpecTyped l.defs.now (closed l)

-- a block of the specification without a type error, over variables and arguments of the declared shapes
pub record CanBlock (l : SymLayer) (p : SymPicks) (nodes : List Node) (b : Block) (vars : List SymValue) (args : List Declared) (values : List SymValue)
    : Type 0 where
  pub sound : IsTrue (none (definitions_errors l.defs.now [] []))
  pub typed : SpecBlockTyped l.defs.now (closed l) b args
  pub vars_are : LowShaped nodes (l.layer.now).state vars
  pub args_are : LowShaped nodes args values
  pub single : SingleFrom (first_number p) nodes

module _ (kinds : List RuleKind) (l : SymLayer) (p : SymPicks) where
  -- what a block leaves, and its answer
  abbrev pub block_of : Block → List SymValue → List Declared → List SymValue → Make Done
  block_of b vars args values = block_made kinds (terms_in kinds l) (closed l) (picking kinds p) b vars (sym_bind args values)

  -- what the `crash` block leaves
  abbrev pub crash_of : List SymValue → Make (List SymValue)
  crash_of vars = crash_made kinds (terms_in kinds l) (closed l) (picking kinds p) vars

  -- what a block leaves and then the `crash` block
  abbrev pub then_crash_of : Block → List SymValue → List Declared → List SymValue → Make (List SymValue)
  then_crash_of b vars args values = then_crash_made kinds (terms_in kinds l) (closed l) (picking kinds p) b vars (sym_bind args values)

  -- what power leaves that fails within a named operation
  abbrev pub fall_of : Name → List SymValue → List SymValue → Make (List SymValue)
  fall_of name values vars = fall_asked kinds (terms_in kinds l) (closed l) (picking kinds p) (operation_of (closed l) name) vars values

  -- and within an operation of the layer
  abbrev pub cut_of : Operation → List SymValue → List SymValue → Make (List SymValue)
  cut_of o values vars = fall_made kinds (terms_in kinds l) (closed l) (picking kinds p) o o.on_crash vars values

-- an operation of the specification over variables and arguments of the declared shapes
pub record CanFall (l : SymLayer) (p : SymPicks) (nodes : List Node) (o : Operation) (vars values : List SymValue) : Type 0 where
  pub sound : IsTrue (none (definitions_errors l.defs.now [] []))
  pub crash : SpecBlockTyped l.defs.now (closed l) (l.layer.now).crash []
  pub operation : OperationTyped l.defs.now (closed l) o
  pub vars_are : LowShaped nodes (l.layer.now).state vars
  pub args_are : LowShaped nodes o.arguments values
  pub single : SingleFrom (first_number p) nodes

-- a named operation, if it is one, over variables and arguments of the declared shapes
pub record CanCut (l : SymLayer) (p : SymPicks) (nodes : List Node) (name : Name) (vars values : List SymValue) : Type 0 where
  pub serves : SpecServes l
  pub vars_are : LowShaped nodes (l.layer.now).state vars
  pub args_are : (o : Operation) → operation_of (closed l) name ≡ Some o → LowShaped nodes o.arguments values
  pub single : SingleFrom (first_number p) nodes
