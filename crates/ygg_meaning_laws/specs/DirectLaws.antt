-- What a machine does with a block is the direct run, and the other way round.
use Rattle.std.specs.Prelude.{◌≡◌, ◌↔◌, Bool, false, IsTrue, List, ◌++◌, length, Option, Some, option_map}
use Rattle.ygg_value.specs.declared.shape.Shape.{Shape}
use Rattle.ygg_syntax.specs.declared.grammar.BlockKind.TheVariants.{Impl}
use Rattle.ygg_syntax.specs.declared.tree.Block.{Block}
use Rattle.ygg_syntax.specs.declared.tree.DiskText.{DiskText}
use Rattle.ygg_syntax.specs.declared.tree.Operation.{Operation}
use Rattle.ygg_value.specs.declared.row.Value.{Value}
use Rattle.ygg_meaning_laws.specs.ygg_type_rules.Names.{Named, look_up}
use Rattle.ygg_meaning_laws.specs.Signature.{Signature}
use Rattle.ygg_meaning_laws.specs.TypeErrors.{none}
use Rattle.ygg_meaning_laws.specs.Scopes.{Scope}
use Rattle.ygg_meaning_laws.specs.Statements.{block_errors}
use Rattle.ygg_meaning_laws.specs.Files.{disk_errors, disk_operations}
use Rattle.ygg_meaning_laws.specs.Definitions.{parameter_shapes}
use Rattle.ygg_meaning_laws.specs.Layers.{operation_signature}
use Rattle.ygg_meaning_laws.specs.Environments.{Name, Env}
use Rattle.ygg_meaning_laws.specs.MeaningShapes.{values_fit}
use Rattle.ygg_meaning_laws.specs.Spec.{Spec}
use Rattle.ygg_meaning_laws.specs.Progress.{Answer}
use Rattle.ygg_meaning_laws.specs.Machine.{Picks, State, on, Machine}
use Rattle.ygg_meaning_laws.specs.Layer.{ClosedLayer, operation_of, BlockRuns, BlockFalls}
use Rattle.ygg_meaning_laws.specs.DiskMachine.{DiskMachine}
use Rattle.ygg_meaning_laws.specs.Obligations.{Halt, IsRead}
use Rattle.ygg_meaning_laws.specs.Agrees.{Agrees}
use Rattle.ygg_meaning_laws.specs.Fitting.{all_fit}
use Rattle.ygg_meaning_laws.specs.Kinds.{keeps}
use Rattle.ygg_meaning_laws.specs.Questions.{plain}
use Rattle.ygg_meaning_laws.specs.Machines.{IsSized, IsStateOf, SpecAnswers}
use Rattle.ygg_meaning_laws.specs.Acts.{Acts, Notes, noted_picks, Took, runs, falls_in}
use Rattle.ygg_meaning_laws.specs.DiskActs.{disk_acts}
use Rattle.ygg_meaning_laws.specs.SpecActs.{spec_acts}

module _ {B X : Type 0} (N : Notes X) (M : Machine B X) (L : ClosedLayer) (b : Block) (args : Env) (from : State B) where
  -- a whole run of a block takes the next picks of a list
  pub record RunsOn (past : Bool) (picks : Picks) (answer : Answer) (to : State B) (notes : List X) (left : Picks) : Type 0 where
    pub run : BlockRuns L M b args from notes answer to
    pub took : Took past N notes picks left

  -- a run of a block that power cuts at a stop takes the next picks of a list
  pub record FallsOn (past : Bool) (stop : Halt) (picks : Picks) (fallen : B) (notes : List X) (left : Picks) : Type 0 where
    pub run : BlockFalls L M b args from notes fallen
    pub within : stop.within ≡ run.run.within
    pub event : stop.event ≡ length run.run.calls
    pub took : Took past N notes picks left

  -- on a list of picks the block runs just so as the direct run does
  abbrev pub RunsDirectly : Bool → Acts B X → Type 0
  RunsDirectly past F = (picks left : Picks) (answer : Answer) (to : State B) (notes : List X) →
      RunsOn past picks answer to notes left ↔ (runs F L b args from picks ≡ record { answer = answer; to = to; notes = notes; left = left })

  -- and falls just so
  abbrev pub FallsDirectly : Bool → Acts B X → Type 0
  FallsDirectly past F = (stop : Halt) (picks left : Picks) (fallen : B) (notes : List X) →
      FallsOn past stop picks fallen notes left ↔ (falls_in F L b args from stop picks ≡ Some (record { base = fallen; notes = notes; left = left }))

-- A block of an implementation in a scope in which it has no type error, over names that agree with it. What it calls are operations of these signatures.
pub record IsTypedBlock (L : ClosedLayer) (lower : Named Signature) (b : Block) (env : Env) : Type 0 where
  pub scope : Scope
  pub shape : Option Shape
  pub lower_is : scope.lower ≡ lower
  pub agrees : Agrees L.functions scope (plain env)
  pub without_errors : IsTrue (none (block_errors b shape scope))
  pub kept : IsTrue (keeps Impl b)

-- on a disk of the file's size a typed block runs and falls just so as its direct run
abbrev pub DirectOnDisk : Type 0
DirectOnDisk =
    (past : Bool) (d : DiskText) (L : ClosedLayer) (b : Block) (args memory : Env) (lower : State Env) →
    IsTrue (none (disk_errors d)) → IsTypedBlock L (disk_operations d) b (memory ++ args) → IsSized d lower →
    RunsDirectly noted_picks (DiskMachine d) L b args (on memory lower) past (disk_acts past d)
    × FallsDirectly noted_picks (DiskMachine d) L b args (on memory lower) past (disk_acts past d)

-- what a schedule's picks name, in the words of schedules: the one run that reads them
abbrev pub ReadsDirectly : Type 0
ReadsDirectly =
    (d : DiskText) (L : ClosedLayer) (b : Block) (args : Env) (from to : State Env) (picks taken : Picks) (answer : Answer) →
    BlockRuns L (DiskMachine d) b args from taken answer to → IsRead picks taken →
    let did = runs (disk_acts false d) L b args from picks in (did.answer ≡ answer) × (did.to ≡ to) × (did.notes ≡ taken)

-- the operations of a layer as a block above sees them: their signatures, and arguments of their shapes
pub record Sees (m : ClosedLayer) (lower : Named Signature) : Type 0 where
  pub seen : (name : Name) → look_up name lower ≡ option_map operation_signature (operation_of m name)
  pub fit : (name : Name) (o : Operation) (args : List Value) → operation_of m name ≡ Some o → IsTrue (all_fit (parameter_shapes o.arguments) args) →
      IsTrue (values_fit o.arguments args)

-- on a specification that answers a typed block runs and falls just so as its direct run
abbrev pub DirectOnSpec : Type 0
DirectOnSpec =
    (past : Bool) (m L : ClosedLayer) (operations : Named Signature) (b : Block) (args memory : Env) (lower : State Env) →
    SpecAnswers m → Sees m operations → IsTypedBlock L operations b (memory ++ args) → IsStateOf m lower →
    RunsDirectly noted_picks (Spec m) L b args (on memory lower) past (spec_acts past m)
    × FallsDirectly noted_picks (Spec m) L b args (on memory lower) past (spec_acts past m)
