-- Which scripts are those of a file.
use Rattle.std.specs.Prelude.{◌≡◌, ℕ, ◌<◌, ◌^◌, Bool, true, false, ◌&&◌, IsTrue, List, [], ◌∷◌, All, slice_get, Some}
use Rattle.ygg_value.specs.declared.row.Value.{Value}
use Rattle.ygg_syntax.specs.declared.tree.Operation.{Operation}
use Rattle.ygg_syntax.specs.declared.tree.Tick as tree
use Rattle.ygg_syntax.specs.declared.tree.Layer.{Layer}
use Rattle.ygg_syntax.specs.declared.tree.File.{File}
use Rattle.ygg_sched.specs.Fitting.{AreOfTypes}
use Rattle.ygg_script.specs.declared.command.Command.{Command}
use Rattle.ygg_script.specs.declared.command.Command.TheVariants.{Call, Tick, Lost, Fail, Keep}
use Rattle.ygg_script.specs.Places.{top_operations}
use Rattle.ygg_script.specs.Reading.{is_stoppable}

-- an operation at this place of the topmost layer, and a value of its type for each argument
pub record IsCallOf (f : File) (op : ℕ) (args : List Value) : Type 0 where
  pub operation : Operation
  pub there : slice_get (top_operations f) op ≡ Some operation
  pub fits : AreOfTypes operation.arguments args

-- a layer at this place of the file, and a background step at that place of the layer
pub record IsTickOf (f : File) (layer number : ℕ) : Type 0 where
  pub own : Layer
  pub tick : tree.Tick
  pub layer_there : slice_get f.layers layer ≡ Some own
  pub tick_there : slice_get own.ticks number ≡ Some tick

-- a command that the file has
abbrev pub IsCommandOf : File → Command → Type 0
IsCommandOf f (Call op args) = IsCallOf f op args
IsCommandOf f (Tick layer number) = IsTickOf f layer number
IsCommandOf f Lost = Unit {0}
IsCommandOf f (Fail within call) = call < 2 ^ 64
IsCommandOf f (Keep picks) = Unit {0}

-- whether a command may stand after others, or at the begin: a stop only where one of them can be stopped
abbrev pub may_stand : Bool → Command → Bool
may_stand stoppable (Call op args) = true
may_stand stoppable (Tick layer number) = true
may_stand stoppable Lost = true
may_stand stoppable (Fail within call) = stoppable
may_stand stoppable (Keep picks) = true

-- whether each command may stand where it does
abbrev pub are_placed : Bool → List Command → Bool
are_placed stoppable [] = true
are_placed stoppable (c ∷ cs) = may_stand stoppable c && are_placed (is_stoppable c) cs

-- a script of the file
pub record IsScriptOf (f : File) (script : List Command) : Type 0 where
  pub commands : All (IsCommandOf f) script
  pub placed : IsTrue (are_placed false script)
