-- How a run of a block ends.
use Rattle.std.specs.Prelude.{◌≡◌, ℕ, ◌<◌, ◌≤◌, Bool, true, false, IsTrue, IsSome, MatchBool, List, length, take, Option, Some, None, Result, Ok, Err, ◌⊎◌}
use Rattle.ygg_list.specs.declared.memory.NoMemory.{NoMemory}
use Rattle.ygg_value.specs.declared.row.Value.{Value}
use Rattle.ygg_syntax.specs.declared.grammar.BlockKind.{BlockKind}
use Rattle.ygg_syntax.specs.declared.tree.Declared.{Declared}
use Rattle.ygg_syntax.specs.declared.tree.File.{File}
use Rattle.ygg_syntax.specs.declared.tree.Layer.{Layer}
use Rattle.ygg_syntax.specs.declared.tree.Block.{Block}
use Rattle.ygg_eval_expr.specs.ygg_meaning.Environments.{Name, Env, bind}
use Rattle.ygg_eval_expr.specs.ygg_meaning.Shapes.{values_fit}
use Rattle.ygg_eval_expr.specs.ygg_meaning.Progress.{Answer, Call, Asks, Ends}
use Rattle.ygg_eval_expr.specs.ygg_meaning.Runs.{Dialogue}
use Rattle.ygg_eval.specs.ygg_meaning_laws.Kinds.{may_call}
use Rattle.ygg_eval.specs.declared.body.Body.{Body}
use Rattle.ygg_eval.specs.declared.body.Stop.{Stop}
use Rattle.ygg_eval.specs.Bodies.{IsBlock, dialogue_in, variables_in, kind_of}
use Rattle.ygg_eval.specs.Lower.{Standing, Meaning, Ending, Outage, Happened, Lacking, Serves}
use Rattle.ygg_eval.specs.Lower as ending
use Rattle.ygg_eval.specs.Conversations.{Conversation, Exchanged, asked, answers_of, calls_in}
use Rattle.ygg_eval.specs.declared.run.Ended.{Ended}
use Rattle.ygg_eval.specs.declared.run.Ended.TheVariants.{Whole, Stopped, Short, Down, Failed}

-- no stop was reached by so many whole calls: there is none, or it comes after more of them
abbrev pub IsBeforeStop : Option Stop → ℕ → Type 0
IsBeforeStop None calls = Unit {0}
IsBeforeStop (Some stop) calls = calls < stop.event

-- a block that has ended has not reached its stop: that comes after more calls, or within a call that isn't made
abbrev pub IsShortOf : Option Stop → ℕ → Type 0
IsShortOf None calls = ⊥
IsShortOf (Some stop) calls = MatchBool stop.within (calls ≤ stop.event) (calls < stop.event)

-- the stop comes within the call that follows so many whole ones, or after so many with no further one begun
abbrev pub IsStop : Option Stop → Bool → ℕ → Type 0
IsStop None within calls = ⊥
IsStop (Some stop) within calls = (stop.within ≡ within) × (stop.event ≡ calls)

module _ {S : Type 0} (M : Meaning S) (file : File) (kind : BlockKind) (number : ℕ) (block : Dialogue) (from : Standing S) where
  -- the block has come so far
  abbrev pub Came : Standing S → Type 0
  Came at = Conversation (Exchanged M file kind number) (λ told. asked (block told)) from at

  -- the block came to its end, with this answer and these values of its variables
  pub record Finished (variables : List Declared) (values values' : List Value) (answer : Answer) (to : Standing S) : Type 0 where
    pub came : Came to
    pub env : Env
    pub ends : block (answers_of came.exchanges) ≡ Ends env answer
    pub leaves : bind variables values' ≡ take (length values) env
    pub fit : IsTrue (values_fit variables values')

  -- a call that the block asked for ended so, before any stop was reached
  pub record EndedIn (stop : Option Stop) (ending : Ending) (to : Standing S) : Type 0 where
    pub at : Standing S
    pub came : Came at
    pub before : IsBeforeStop stop (calls_in came.exchanges)
    pub name : Name
    pub args : List Value
    pub asks : block (answers_of came.exchanges) ≡ Asks (Call name args)
    pub step : M.Calls file at name args ending to

  -- power is to fail within the call that the block asks for, and that ends so
  pub record FallsIn (outage : Outage) (told : List Answer) (at to : Standing S) : Type 0 where
    pub name : Name
    pub args : List Value
    pub asks : block told ≡ Asks (Call name args)
    pub step : M.Falls file at name args outage to

  -- power is to fail within the call that the block asks for, or with no call begun, and that ends so
  abbrev pub FallsAt : Bool → Outage → List Answer → Standing S → Standing S → Type 0
  FallsAt true outage told at to = FallsIn outage told at to
  FallsAt false outage told at to = M.Loses file at outage to

  -- the stop was reached, and power failed there
  pub record StoppedAt (stop : Option Stop) (to : Standing S) : Type 0 where
    pub at : Standing S
    pub came : Came at
    pub within : Bool
    pub is : IsStop stop within (calls_in came.exchanges)
    pub falls : FallsAt within Happened (answers_of came.exchanges) at to

  -- the stop was reached, and no memory was left to make power fail there
  pub record StarvedAt (stop : Option Stop) (to : Standing S) : Type 0 where
    pub at : Standing S
    pub came : Came at
    pub within : Bool
    pub is : IsStop stop within (calls_in came.exchanges)
    pub falls : FallsAt within Lacking (answers_of came.exchanges) at to

  -- the block came to its end before its stop
  pub record FinishedEarly (variables : List Declared) (values values' : List Value) (stop : Option Stop) (to : Standing S) : Type 0 where
    pub answer : Answer
    pub done : Finished variables values values' answer to
    pub early : IsShortOf stop (calls_in done.came.exchanges)

  -- how a run ended: from these values of the variables to those, and so far on the machine below
  abbrev pub RunEnds : List Declared → List Value → Option Stop → Result Ended NoMemory → List Value → Standing S → Type 0
  RunEnds variables values stop (Ok (Whole answer)) values' to = (stop ≡ None) × Finished variables values values' answer to
  RunEnds variables values stop (Ok Stopped) values' to = StoppedAt stop to
  RunEnds variables values stop (Ok Short) values' to = FinishedEarly variables values values' stop to
  RunEnds variables values stop (Ok Down) values' to = EndedIn stop ending.Down to
  RunEnds variables values stop (Ok Failed) values' to = EndedIn stop ending.Failed to
  RunEnds variables values stop (Err e) values' to = EndedIn stop ending.Starved to ⊎ Came to ⊎ StarvedAt stop to

-- how a run of a block of a file ended
abbrev pub BodyEnds : {S : Type 0} → Meaning S → File → Body → List Value → Option Stop → List Value → Standing S → Result Ended NoMemory → List Value
    → Standing S → Type 0
BodyEnds M file body args stop values from result values' to =
    (l : Layer) (b : Block) → IsBlock file body l b →
    RunEnds M file (kind_of body.part) body.layer (dialogue_in file body l b args values) from (variables_in l body.part) values stop result values' to

-- what is asked of the machine below: where the block may call it, or is to be stopped, it serves the layer; it can be stopped where there is a stop
pub record CanServe {S : Type 0} (M : Meaning S) (file : File) (body : Body) (stop : Option Stop) (at : Standing S) : Type 0 where
  pub calls : IsTrue (may_call (kind_of body.part)) → Serves M file body.layer at
  pub stops : IsSome stop → IsTrue M.can_stop × Serves M file body.layer at

-- the machine with this number still serves after a run that power did not cut, if it did before
abbrev pub StillServes : {S : Type 0} → Meaning S → File → ℕ → Result Ended NoMemory → Standing S → Standing S → Type 0
StillServes M file number (Ok (Whole answer)) from to = Serves M file number from → Serves M file number to
StillServes M file number (Ok Short) from to = Serves M file number from → Serves M file number to
StillServes M file number (Ok Stopped) from to = Serves M file number to
StillServes M file number (Ok Down) from to = Unit {0}
StillServes M file number (Ok Failed) from to = Unit {0}
StillServes M file number (Err e) from to = Unit {0}
