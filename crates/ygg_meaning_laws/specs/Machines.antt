-- What the specification of a layer and the disk answer.
use Rattle.std.specs.Prelude.{◌≡◌, Bool, IsTrue, List, Some}
use Rattle.ygg_value.specs.declared.row.Value.{Value}
use Rattle.ygg_syntax.specs.declared.tree.DiskText.{DiskText}
use Rattle.ygg_syntax.specs.declared.tree.Operation.{Operation}
use Rattle.ygg_meaning_laws.specs.ygg_type_rules.Names.{look_up}
use Rattle.ygg_meaning_laws.specs.Signature.{Signature}
use Rattle.ygg_meaning_laws.specs.Layers.{operation_signature}
use Rattle.ygg_meaning_laws.specs.Files.{disk_operations}
use Rattle.ygg_meaning.specs.Environments.{Name, Env}
use Rattle.ygg_meaning.specs.Shapes.{values_fit, env_fits}
use Rattle.ygg_meaning.specs.Progress.{Answer}
use Rattle.ygg_meaning.specs.Machine.{Picks, State, based, Machine}
use Rattle.ygg_meaning.specs.Layer.{ClosedLayer, operation_of}
use Rattle.ygg_meaning.specs.Spec.{Spec}
use Rattle.ygg_meaning.specs.DiskMachine.{DiskMachine}
use Rattle.ygg_meaning.specs.Stack.{tables_of}
use Rattle.ygg_meaning.specs.Under.{Failure, FailsBy}
use Rattle.ygg_meaning_laws.specs.Fitting.{all_fit}
use Rattle.ygg_meaning_laws.specs.Questions.{gives}

-- a whole operation of a machine
pub record CanCall (M : Machine Env Bool) (s : State Env) (name : Name) (args : List Value) : Type 0 where
  pub picks : Picks
  pub answer : Answer
  pub to : State Env
  pub call : M.Calls s name args picks answer to

-- an operation of a machine that power cuts
pub record CanFall (M : Machine Env Bool) (s : State Env) (name : Name) (args : List Value) : Type 0 where
  pub picks : Picks
  pub fallen : Env
  pub falls : M.Falls s name args picks fallen

-- power loss between operations
pub record CanLose (M : Machine Env Bool) (s : State Env) : Type 0 where
  pub picks : Picks
  pub fallen : Env
  pub loses : M.Loses s picks fallen

-- variables of the declared shapes
pub record IsStateOf (L : ClosedLayer) (s : State Env) : Type 0 where
  pub vars : Env
  pub is : s ≡ based vars
  pub shaped : IsTrue (env_fits L.layer.state vars)

-- a start state, with variables of the declared shapes
pub record CanStart (L : ClosedLayer) : Type 0 where
  pub state : State Env
  pub picks : Picks
  pub starts : (Spec L).Starts state picks
  pub shaped : IsStateOf L state

-- A specification answers whatever it is asked from variables of the declared shapes, and what it does keeps them so.
pub record SpecAnswers (L : ClosedLayer) : Type 0 where
  -- it has a start state
  pub starts : CanStart L
  -- each operation can be called with arguments that fit
  pub calls : (s : State Env) (name : Name) (args : List Value) (o : Operation) →
      IsStateOf L s → operation_of L name ≡ Some o → IsTrue (values_fit o.arguments args) → CanCall (Spec L) s name args
  -- power can cut it
  pub cuts : (s : State Env) (name : Name) (args : List Value) (o : Operation) →
      IsStateOf L s → operation_of L name ≡ Some o → IsTrue (values_fit o.arguments args) → CanFall (Spec L) s name args
  -- power can be lost between operations
  pub can_lose : (s : State Env) → IsStateOf L s → CanLose (Spec L) s
  -- the answer of an operation fits
  pub gives : (s to : State Env) (name : Name) (args : List Value) (picks : Picks) (answer : Answer) (o : Operation) →
      (Spec L).Calls s name args picks answer to → operation_of L name ≡ Some o → IsTrue (gives (operation_signature o) answer)
  -- the variables keep their shapes
  pub keeps : (s to : State Env) (name : Name) (args : List Value) (picks : Picks) (answer : Answer) → (Spec L).Calls s name args picks answer to →
      IsStateOf L to
  -- also where power fails
  pub falls : (s : State Env) (how : Failure) (picks : Picks) (f : Env) → FailsBy (Spec L) how s picks f → IsStateOf L (based f)

-- tables of the disk's size
pub record IsSized (d : DiskText) (s : State Env) : Type 0 where
  pub tables : Env
  pub is : s ≡ based tables
  pub sized : IsTrue (env_fits (tables_of d) tables)

-- A disk answers each of its operations with arguments that fit from tables of its size, and what it does keeps them so.
pub record DiskAnswers (d : DiskText) : Type 0 where
  -- each operation can be called with arguments that fit
  pub calls : (s : State Env) (name : Name) (args : List Value) (o : Signature) →
      IsSized d s → look_up name (disk_operations d) ≡ Some o → IsTrue (all_fit o.arguments args) → CanCall (DiskMachine d) s name args
  -- power can cut it
  pub cuts : (s : State Env) (name : Name) (args : List Value) (o : Signature) →
      IsSized d s → look_up name (disk_operations d) ≡ Some o → IsTrue (all_fit o.arguments args) → CanFall (DiskMachine d) s name args
  -- power can be lost between operations
  pub can_lose : (s : State Env) → IsSized d s → CanLose (DiskMachine d) s
  -- its answer fits
  pub gives : (s to : State Env) (name : Name) (args : List Value) (picks : Picks) (answer : Answer) (o : Signature) →
      IsSized d s → look_up name (disk_operations d) ≡ Some o → IsTrue (all_fit o.arguments args) →
      (DiskMachine d).Calls s name args picks answer to → IsTrue (gives o answer)
  -- the tables keep their size
  pub keeps : (s to : State Env) (name : Name) (args : List Value) (picks : Picks) (answer : Answer) (o : Signature) →
      IsSized d s → look_up name (disk_operations d) ≡ Some o → IsTrue (all_fit o.arguments args) → (DiskMachine d).Calls s name args picks answer to
      → IsSized d to
  -- also where power fails within an operation
  pub falls : (s : State Env) (name : Name) (args : List Value) (picks : Picks) (f : Env) (o : Signature) →
      IsSized d s → look_up name (disk_operations d) ≡ Some o → IsTrue (all_fit o.arguments args) → (DiskMachine d).Falls s name args picks f →
      IsSized d (based f)
  -- and between operations
  pub loses : (s : State Env) (picks : Picks) (f : Env) → IsSized d s → (DiskMachine d).Loses s picks f → IsSized d (based f)
