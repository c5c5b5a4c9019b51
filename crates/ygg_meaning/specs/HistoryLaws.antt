-- The laws of layers on layers.
use Rattle.std.specs.Prelude.{◌≡◌, ◌↔◌, Bool, All, List, [], ◌∷◌}
use Rattle.ygg_value.specs.declared.row.Value.{Value}
use Rattle.ygg_syntax.specs.declared.tree.DiskText.{DiskText}
use Rattle.ygg_syntax.specs.declared.tree.File.{File}
use Rattle.ygg_meaning.specs.Environments.{Name, Env}
use Rattle.ygg_meaning.specs.Shapes.{zeros_of}
use Rattle.ygg_meaning.specs.Progress.{Question, Call, Answer, Asks}
use Rattle.ygg_meaning.specs.Machine.{Picks, State, based, on, Machine}
use Rattle.ygg_meaning.specs.Runs.{WholeCall, Reaches, answers_of}
use Rattle.ygg_meaning.specs.Layer.{ClosedLayer, Layered, dialogue_of}
use Rattle.ygg_meaning.specs.DiskMachine.{DiskMachine}
use Rattle.ygg_meaning.specs.Stack.{Layers, Bottom, Over, Top, BottomOf, Linked, AllRefine, FileRefines, layers_of}
use Rattle.ygg_meaning.specs.Claims.{ClaimHolds, claims_of}
use Rattle.ygg_meaning.specs.Under.{Under, Failure, FailsBy}
use Rattle.ygg_meaning.specs.History.{Entry, History, Allows}

-- a base without memories and the state of the layers, linked by the layers' relations
pub record ByLinks (layers : Layers) (t s : State Env) : Type 0 where
  pub base : Env
  pub is : t ≡ based base
  pub linked : Linked layers base s

-- equal memories on related states
pub record OnTop {B C : Type 0} (R : State C → State B → Type 0) (t : State C) (s : State B) : Type 0 where
  pub memory : Env
  pub upper : State C
  pub lower : State B
  pub upper_is : t ≡ on memory upper
  pub lower_is : s ≡ on memory lower
  pub related : R upper lower

-- a better machine below gives a better layer: whatever the bottom implementation of the layers is under, the next layer on it is under the next layer on that
abbrev pub Monotone : Type 0
Monotone =
    (disk : DiskText) (L : ClosedLayer) (lower : Layers) → Under (Bottom disk lower) (Top disk lower) (ByLinks lower) →
    Under (Layered L (Bottom disk lower)) (Layered L (Top disk lower)) (OnTop (ByLinks lower))

-- the machine answers what a block asks
pub record IsAnswered {B X : Type 0} (M : Machine B X) (s : State B) (q : Question) : Type 0 where
  pub name : Name
  pub args : List Value
  pub notes : List X
  pub answer : Answer
  pub after : State B
  pub is : q ≡ Call name args
  pub call : M.Calls s name args notes answer after

-- after power has failed on what the layer is specified over, each call that a recovery makes there is answered
pub record Answered (L : ClosedLayer) (M : Machine Env Bool) : Type 0 where
  pub answers : (s : State Env) (how : Failure) (picks : Picks) (f : Env) → FailsBy M how s picks f →
      (calls : List (WholeCall Env Bool)) (at : State Env) (q : Question) →
      Reaches M (dialogue_of L L.layer.recover (zeros_of L.layer.memory) []) [] (based f) calls at →
      dialogue_of L L.layer.recover (zeros_of L.layer.memory) [] (answers_of calls) ≡ Asks q → IsAnswered M at q

-- the same of each layer, which holds of every typed file
abbrev pub AllAnswered : Machine Env Bool → Layers → Type 0
AllAnswered M [] = Unit {0}
AllAnswered M (L ∷ lower) = Answered L (Over M lower) × AllAnswered M lower

-- where each layer refines its specification, the bottom implementation is under the topmost specification
abbrev pub Compose : Type 0
Compose =
    (disk : DiskText) (layers : Layers) → AllRefine (DiskMachine disk) layers → AllAnswered (DiskMachine disk) layers →
    Under (Bottom disk layers) (Top disk layers) (ByLinks layers)

-- the same of each layer of a file
abbrev pub FileAnswered : File → Type 0
FileAnswered f = AllAnswered (DiskMachine f.disk) (layers_of f)

-- where each layer of a file refines its specification, the topmost specification allows every history of the bottom implementation
abbrev pub Histories : Type 0
Histories =
    (f : File) → FileRefines f → FileAnswered f → (es : List Entry) (s : State Env) → History (BottomOf f) es s → Allows f es s

-- each layer of a file refines its specification exactly where each obligation in the file's list holds
abbrev pub RefinesByList : Type 0
RefinesByList = (f : File) → All ClaimHolds (claims_of f) ↔ FileRefines f
