-- Blocks of a specification that were run.
use Rattle.std.specs.Prelude.{◌≡◌, ℕ, ◌++◌, IsTrue, List, [], slice_get, Some}
use Rattle.ygg_value.specs.declared.row.Value.{Value}
use Rattle.ygg_syntax.specs.declared.tree.Block.{Block}
use Rattle.ygg_syntax.specs.declared.tree.Operation.{Operation}
use Rattle.ygg_syntax.specs.declared.tree.Layer.{Layer}
use Rattle.ygg_syntax.specs.declared.tree.File.{File}
use Rattle.ygg_eval.specs.ygg_disk.declared.power.Power.{Power}
use Rattle.ygg_eval.specs.ygg_meaning.Environments.{bind}
use Rattle.ygg_eval.specs.ygg_meaning.Shapes.{values_fit}
use Rattle.ygg_eval.specs.ygg_meaning.Progress.{Answer}
use Rattle.ygg_eval.specs.ygg_meaning.Machine.{Picks}
use Rattle.ygg_eval.specs.ygg_meaning.Spec.{chosen, block_outcome, crash_outcome, fall_outcome}
use Rattle.ygg_eval.specs.declared.body.Body.{Body}
use Rattle.ygg_eval.specs.declared.body.Part.TheVariants.{Crash}
use Rattle.ygg_eval.specs.Layers.{closed_at}
use Rattle.ygg_eval.specs.Bodies.{IsBlock, arguments_in}
use Rattle.ygg_eval.specs.Taken.{TakesOnly}

-- a block ran wholly with the next picks, and gave this answer
pub record Ran (file : File) (body : Body) (l : Layer) (b : Block) (args : List Value) (answer : Answer) (values values' : List Value)
    (power power' : Power) : Type 0 where
  pub picks : Picks
  pub gives : block_outcome (closed_at file body.layer l) b (bind l.state values) (bind (arguments_in l body.part body.number) args) (chosen picks)
      ≡ Some (record { vars = bind l.state values'; answer = answer; left = [] })
  pub takes : TakesOnly picks power power'
  pub fit : IsTrue (values_fit l.state values')

-- the block of a file that is meant ran wholly
abbrev pub BodyRan : File → Body → List Value → Answer → List Value → List Value → Power → Power → Type 0
BodyRan file body args answer values values' power power' =
    (l : Layer) (b : Block) → IsBlock file body l b → Ran file body l b args answer values values' power power'

-- what an operation that power cut has left so far: with any picks that follow, the `crash` block alone is to run
pub record Broken (file : File) (place : ℕ) (l : Layer) (o : Operation) (args : List Value) (values values' : List Value) (power power' : Power) : Type 0 where
  pub picks : Picks
  pub goes : (more : Picks) → fall_outcome (closed_at file place l) o (bind l.state values) args (picks ++ more) ≡ crash_outcome
      (closed_at file place l) (bind l.state values') (chosen more)
  pub takes : TakesOnly picks power power'
  pub fit : IsTrue (values_fit l.state values')

-- the operation of a file that is meant was cut
abbrev pub OperationBroken : File → ℕ → ℕ → List Value → List Value → List Value → Power → Power → Type 0
OperationBroken file place number args values values' power power' =
    (l : Layer) (o : Operation) → slice_get file.layers place ≡ Some l → slice_get l.operations number ≡ Some o →
    Broken file place l o args values values' power power'

-- the `crash` block of the layer at a place ran wholly
abbrev pub CrashRan : File → ℕ → List Value → List Value → Power → Power → Type 0
CrashRan file place values values' power power' =
    (answer : Answer) × BodyRan file (record { layer = place; part = Crash; number = 0 }) [] answer values values' power power'
