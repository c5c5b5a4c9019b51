-- What can have happened to a machine since it was formatted.
use Rattle.std.specs.Prelude.{◌≡◌, List, [], ◌∷◌}
use Rattle.ygg_value.specs.declared.row.Value.{Value}
use Rattle.ygg_syntax.specs.declared.tree.File.{File}
use Rattle.ygg_meaning.specs.Environments.{Name, Env}
use Rattle.ygg_meaning.specs.Progress.{Answer}
use Rattle.ygg_meaning.specs.Machine.{State, based, TickName, Machine}
use Rattle.ygg_meaning.specs.Stack.{Linked, TopOf, layers_of}
use Rattle.ygg_meaning.specs.Under.{InCall, InTick, Between, Survives}

-- one thing that has happened; after power has failed the machine was woken
pub data Entry : Type 0 where
  -- a whole operation, with its answer
  Called : (name : Name) (args : List Value) (answer : Answer) → Entry
  -- an operation that power cut, which gives no answer
  Cut : (name : Name) (args : List Value) → Entry
  -- a whole background step
  Ticked : (name : TickName) → Entry
  -- a background step that power cut
  CutTick : (name : TickName) → Entry
  -- power failed between operations
  Lost : Entry

-- an entry leads from one running state to another
abbrev pub Step : {B X : Type 0} → Machine B X → Entry → State B → State B → Type 0
Step {B} {X} M (Called name args answer) s s' = (notes : List X) × M.Calls s name args notes answer s'
Step M (Cut name args) s s' = Survives M (InCall name args) s s'
Step {B} {X} M (Ticked name) s s' = (notes : List X) × M.Ticks s name notes s'
Step M (CutTick name) s s' = Survives M (InTick name) s s'
Step M Lost s s' = Survives M Between s s'

-- the entries in turn lead from one running state to another
abbrev pub Steps : {B X : Type 0} → Machine B X → State B → List Entry → State B → Type 0
Steps M s [] s' = s ≡ s'
Steps {B} {X} M s (e ∷ es) s' = (next : State B) × Step M e s next × Steps M next es s'

-- the entries are a history of the machine, from a formatted state to this one
abbrev pub History : {B X : Type 0} → Machine B X → List Entry → State B → Type 0
History {B} {X} M es s = (start : State B) × (notes : List X) × M.Starts start notes × Steps M start es s

-- the topmost specification of a file has this history too, and each layer's relation holds of the state reached
abbrev pub Allows : File → List Entry → State Env → Type 0
Allows f es s = (vars : Env) × History (TopOf f) es (based vars) × Linked (layers_of f) vars s
