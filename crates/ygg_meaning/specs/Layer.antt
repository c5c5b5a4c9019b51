-- A layer on a machine.
use Rattle.std.specs.Prelude.{◌≡◌, IsTrue, if◌then◌else◌, List, [], ◌∷◌, ◌++◌, length, take, Option, Some, None, ◌⊎◌}
use Rattle.std.specs.Str.{bytes_eq}
use Rattle.ygg_value.specs.declared.row.Value.{Value}
use Rattle.ygg_syntax.specs.declared.tree.Block.{Block}
use Rattle.ygg_syntax.specs.declared.tree.Operation.{Operation}
use Rattle.ygg_syntax.specs.declared.tree.Tick.{Tick}
use Rattle.ygg_syntax.specs.declared.tree.Layer.{Layer}
use Rattle.ygg_syntax.specs.declared.tree.Declared.{Declared}
use Rattle.ygg_meaning.specs.Environments.{Name, Env, bind}
use Rattle.ygg_meaning.specs.Meaning.{Functions, value_with}
use Rattle.ygg_meaning.specs.Shapes.{values_fit, zeros_of}
use Rattle.ygg_meaning.specs.Progress.{Eval, Answer, after}
use Rattle.ygg_meaning.specs.Machine.{State, on, TickName, Machine}
use Rattle.ygg_meaning.specs.Runs.{Dialogue, WholeRun, FallenRun}

-- a layer with all that it speaks of: what its file's definitions give, and the variables of the base below, which `low` names
pub record ClosedLayer : Type 0 where
  pub functions : Functions
  pub layer : Layer
  pub low : List Declared

-- the value of an expression of a block, which sees nothing of the machine below
abbrev pub eval_of : ClosedLayer → Eval
eval_of L e env = value_with L.functions e (record { own = env; low = [] })

-- the first operation of a name
abbrev pub operation_in : List Operation → Name → Option Operation
operation_in [] name = None
operation_in (o ∷ os) name = if bytes_eq o.name.text name then Some o else operation_in os name

-- the layer's operation of a name
abbrev pub operation_of : ClosedLayer → Name → Option Operation
operation_of L = operation_in L.layer.operations

-- the first background step of a name
abbrev pub tick_in : List Tick → Name → Option Tick
tick_in [] name = None
tick_in (t ∷ ts) name = if bytes_eq t.name.text name then Some t else tick_in ts name

-- the layer's background step of a name
abbrev pub tick_of : ClosedLayer → Name → Option Tick
tick_of L = tick_in L.layer.ticks

-- a block of the layer over variables and arguments
abbrev pub dialogue_of : ClosedLayer → Block → Env → Env → Dialogue
dialogue_of L b vars args = after (eval_of L) b (vars ++ args)

-- a whole run of a block of the layer, over its memory and the machine below
pub record BlockRuns {B X : Type 0} (L : ClosedLayer) (M : Machine B X) (b : Block) (args : Env) (from : State B) (notes : List X) (answer : Answer)
    (to : State B) : Type 0 where
  pub memory : Env
  pub lower : State B
  pub from_is : from ≡ on memory lower
  pub env' : Env
  pub lower' : State B
  pub run : WholeRun M (dialogue_of L b memory args) lower notes env' answer lower'
  pub to_is : to ≡ on (take (length memory) env') lower'

-- a run of a block of the layer up to some point, where power fails
pub record BlockFalls {B X : Type 0} (L : ClosedLayer) (M : Machine B X) (b : Block) (args : Env) (from : State B) (notes : List X) (fallen : B) : Type 0 where
  pub memory : Env
  pub lower : State B
  pub from_is : from ≡ on memory lower
  pub run : FallenRun M (dialogue_of L b memory args) lower notes fallen

-- something that happens in an operation that the layer has, with arguments of the declared shapes
pub record OfOperation (L : ClosedLayer) (name : Name) (args : List Value) (Step : Operation → Type 0) : Type 0 where
  pub operation : Operation
  pub is : operation_of L name ≡ Some operation
  pub fit : IsTrue (values_fit operation.arguments args)
  pub step : Step operation

-- something that happens in one of the layer's own background steps
pub record OfTick (L : ClosedLayer) (name : TickName) (Step : Tick → Type 0) : Type 0 where
  pub tick : Tick
  pub here : name.layer ≡ L.layer.name.text
  pub is : tick_of L name.name ≡ Some tick
  pub step : Step tick

-- a background step of the machine below, while memory stays
pub record TicksBelow {B X : Type 0} (M : Machine B X) (from : State B) (name : TickName) (notes : List X) (to : State B) : Type 0 where
  pub memory : Env
  pub lower : State B
  pub from_is : from ≡ on memory lower
  pub lower' : State B
  pub step : M.Ticks lower name notes lower'
  pub to_is : to ≡ on memory lower'

-- power fails while the layer itself does nothing
pub record FallsBelow {B : Type 0} (from : State B) (Falls : State B → Type 0) : Type 0 where
  pub memory : Env
  pub lower : State B
  pub from_is : from ≡ on memory lower
  pub falls : Falls lower

-- the machine below wakes, memory becomes zeros, and then the layer goes on
pub record WakesAndRuns {B X : Type 0} (L : ClosedLayer) (M : Machine B X) (fallen : B) (notes : List X) (Then : State B → List X → Type 0) : Type 0 where
  pub lower : State B
  pub first : List X
  pub second : List X
  pub wakes : M.Wakes fallen first lower
  pub next : Then (on (zeros_of L.layer.memory) lower) second
  pub takes : notes ≡ first ++ second

-- the machine below is in a start state, memory is zeros, and the `format` block is run
pub record StartsAndFormats {B X : Type 0} (L : ClosedLayer) (M : Machine B X) (to : State B) (notes : List X) : Type 0 where
  pub lower : State B
  pub first : List X
  pub second : List X
  pub answer : Answer
  pub starts : M.Starts lower first
  pub formats : BlockRuns L M L.layer.format [] (on (zeros_of L.layer.memory) lower) second answer to
  pub takes : notes ≡ first ++ second

-- The machine that a layer is on a machine below. Its fallen states are those of the machine below.
abbrev pub Layered : {B X : Type 0} → ClosedLayer → Machine B X → Machine B X
Layered L M = record {
  Starts = λ s notes. StartsAndFormats L M s notes;
  Calls = λ s name args notes answer s'. OfOperation L name args (λ o. BlockRuns L M o.implementation (bind o.arguments args) s notes answer s');
  Falls = λ s name args notes f. OfOperation L name args (λ o. BlockFalls L M o.implementation (bind o.arguments args) s notes f);
  Ticks = λ s name notes s'.
      OfTick L name (λ t. (answer : Answer) × BlockRuns L M t.body [] s notes answer s') ⊎ TicksBelow M s name notes s';
  TickFalls = λ s name notes f.
      OfTick L name (λ t. BlockFalls L M t.body [] s notes f) ⊎ FallsBelow s (λ lower. M.TickFalls lower name notes f);
  Loses = λ s notes f. FallsBelow s (λ lower. M.Loses lower notes f);
  Wakes = λ f notes s. WakesAndRuns L M f notes (λ from second. (answer : Answer) × BlockRuns L M L.layer.recover [] from second answer s);
  WakeFalls = λ f notes f'.
      M.WakeFalls f notes f' ⊎ WakesAndRuns L M f notes (λ from second. BlockFalls L M L.layer.recover [] from second f');
}
