-- Runs of a block on a machine, whole or up to a point where power fails.
use Rattle.std.specs.Prelude.{◌≡◌, Bool, true, false, List, [], ◌∷◌, ◌++◌, map}
use Rattle.std.specs.List.{flat_map}
use Rattle.ygg_value.specs.declared.row.Value.{Value}
use Rattle.ygg_meaning.specs.Environments.{Name, Env}
use Rattle.ygg_meaning.specs.Progress.{Call, Answer, Progress, Asks, Ends}
use Rattle.ygg_meaning.specs.Machine.{State, Machine}

-- a block as a machine sees it: its progress for each list of answers
abbrev pub Dialogue : Type 0
Dialogue = List Answer → Progress

-- one whole call that a block has made
pub record WholeCall (B X : Type 0) : Type 0 where
  pub name : Name
  pub args : List Value
  pub notes : List X
  pub answer : Answer
  -- the machine's state after it
  pub after : State B

-- the answers that a block was given
abbrev pub answers_of : {B X : Type 0} → List (WholeCall B X) → List Answer
answers_of {B} {X} = map (λ (c : WholeCall B X). c.answer)

-- what is noted of its calls
abbrev pub notes_of : {B X : Type 0} → List (WholeCall B X) → List X
notes_of {B} {X} = flat_map (λ (c : WholeCall B X). c.notes)

-- the block, which was given some answers, asks for these calls in turn, and the machine makes them
abbrev pub Reaches : {B X : Type 0} → Machine B X → Dialogue → List Answer → State B → List (WholeCall B X) → State B → Type 0
Reaches M block told from [] to = from ≡ to
Reaches M block told from (c ∷ cs) to =
    (block told ≡ Asks (Call c.name c.args)) × M.Calls from c.name c.args c.notes c.answer c.after
    × Reaches M block (told ++ c.answer ∷ []) c.after cs to

-- a whole run of a block
pub record WholeRun {B X : Type 0} (M : Machine B X) (block : Dialogue) (from : State B) (notes : List X) (env : Env) (answer : Answer)
    (to : State B) : Type 0 where
  pub calls : List (WholeCall B X)
  pub path : Reaches M block [] from calls to
  pub ends : block (answers_of calls) ≡ Ends env answer
  pub takes : notes ≡ notes_of calls

-- power fails within the call that the block asks for
pub record FallsInCall {B X : Type 0} (M : Machine B X) (block : Dialogue) (told : List Answer) (at : State B) (notes : List X) (fallen : B) : Type 0 where
  pub name : Name
  pub args : List Value
  pub asks : block told ≡ Asks (Call name args)
  pub falls : M.Falls at name args notes fallen

-- power fails within the call that the block asks for, or with no call begun
abbrev pub FallsAt : {B X : Type 0} → Bool → Machine B X → Dialogue → List Answer → State B → List X → B → Type 0
FallsAt true M block told at notes fallen = FallsInCall M block told at notes fallen
FallsAt false M block told at notes fallen = M.Loses at notes fallen

-- a run of a block up to some point, where power fails: before the first call, within a call, between two or after the last
pub record FallenRun {B X : Type 0} (M : Machine B X) (block : Dialogue) (from : State B) (notes : List X) (fallen : B) : Type 0 where
  pub calls : List (WholeCall B X)
  pub at : State B
  pub path : Reaches M block [] from calls at
  pub within : Bool
  pub last : List X
  pub falls : FallsAt within M block (answers_of calls) at last fallen
  pub takes : notes ≡ notes_of calls ++ last
