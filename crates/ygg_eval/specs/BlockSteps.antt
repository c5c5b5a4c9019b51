-- How far a part of a block is run.
use Rattle.std.specs.Prelude.{◌≡◌, ℕ, suc, ◌+◌, ◌≤◌, Bool, true, false, IsSome, List, [], ◌∷◌, Option, Some, Result, Ok, Err, ◌⊎◌}
use Rattle.ygg_list.specs.declared.memory.NoMemory.{NoMemory}
use Rattle.ygg_value.specs.declared.row.Value.{Value}
use Rattle.ygg_syntax.specs.declared.tree.File.{File}
use Rattle.ygg_eval_expr.specs.ygg_disk.declared.power.Power.{Power}
use Rattle.ygg_eval_expr.specs.ygg_meaning.Environments.{Name, Env}
use Rattle.ygg_eval_expr.specs.ygg_meaning.Progress.{Answer, Question, Call, Point, Waits, Goes, value_in}
use Rattle.ygg_eval.specs.declared.body.Stop.{Stop}
use Rattle.ygg_eval.specs.Lower.{Standing, Meaning, Ending, Outage, Happened, Lacking, Serves}
use Rattle.ygg_eval.specs.Lower as ending
use Rattle.ygg_eval.specs.Conversations.{Exchange, Answered, one_call, calls_in}
use Rattle.ygg_eval.specs.declared.flow.Break.{Break}
use Rattle.ygg_eval.specs.declared.flow.Break.TheVariants.{Stopped, Down, Failed}
use Rattle.ygg_eval.specs.declared.flow.Flow.{Flow}
use Rattle.ygg_eval.specs.declared.flow.Flow.TheVariants.{Goes as Going, Breaks as Breaking}

-- a machine and what it is told of power
abbrev pub stands : {S : Type 0} → S → Power → Standing S
stands machine power = record { machine = machine; power = power }

-- what a part of a block does with the answers that it is given
abbrev pub Front : Type 0
Front = List Answer → Point

-- it goes on with these names
abbrev pub goes_on : Env → Front
goes_on env left = Goes env left

module _ {S : Type 0} (M : Meaning S) (file : File) (number : ℕ) (stop : Option Stop) where
  -- a part of a block asks and is answered in turn, and then does with further answers what another part does
  abbrev pub Leads : Front → Standing S → List (Exchange S) → Front → Standing S → Type 0
  Leads f from [] g to = (f ≡ g) × (from ≡ to)
  Leads f from (x ∷ xs) g to =
      (f [] ≡ Waits x.question) × Answered M file number from x.question x.answer x.after × Leads (λ more. f (x.answer ∷ more)) x.after xs g to

  -- a part of a block has come so far that another part is left, and so many whole calls before the stop
  pub record Becomes (f g : Front) (from : Standing S) (left : ℕ) (at : Standing S) (left' : ℕ) : Type 0 where
    pub exchanges : List (Exchange S)
    pub path : Leads f from exchanges g at
    pub counts : IsSome stop → left ≡ calls_in exchanges + left'
    pub serves : Serves M file number from → Serves M file number at

  -- one question was asked and answered
  pub record Replied (q : Question) (a : Answer) (from : Standing S) (left : ℕ) (at : Standing S) (left' : ℕ) : Type 0 where
    pub answered : Answered M file number from q a at
    pub counts : IsSome stop → left ≡ one_call q + left'
    pub serves : Serves M file number from → Serves M file number at

  -- a call that is asked for ended so; the stop, if there is one, comes later
  pub record EndsIn (ending : Ending) (p : Point) (at : Standing S) (left : ℕ) (to : Standing S) : Type 0 where
    pub name : Name
    pub args : List Value
    pub asks : p ≡ Waits (Call name args)
    pub later : IsSome stop → 1 ≤ left
    pub step : M.Calls file at name args ending to

  -- power is to fail within the call that is asked for, and that ends so
  pub record Falls (outage : Outage) (p : Point) (at to : Standing S) : Type 0 where
    pub name : Name
    pub args : List Value
    pub asks : p ≡ Waits (Call name args)
    pub step : M.Falls file at name args outage to

  -- power is to fail within the call that is asked for, or before it, and that ends so
  abbrev pub FallsWhere : Bool → Outage → Point → Standing S → Standing S → Type 0
  FallsWhere true outage p at to = Falls outage p at to
  FallsWhere false outage p at to = M.Loses file at outage to

  -- the stop is reached, and power fails there
  pub record Stops (p : Point) (at : Standing S) (left : ℕ) (to : Standing S) : Type 0 where
    pub where_is : Stop
    pub is : stop ≡ Some where_is
    pub reached : left ≡ 0
    pub falls : FallsWhere where_is.within Happened p at to
    pub serves : Serves M file number to

  -- the stop is reached, and no memory is left to make power fail there
  pub record StarvesThere (p : Point) (at : Standing S) (left : ℕ) (to : Standing S) : Type 0 where
    pub where_is : Stop
    pub is : stop ≡ Some where_is
    pub reached : left ≡ 0
    pub falls : FallsWhere where_is.within Lacking p at to

  -- how a run ends at a point of a block
  abbrev pub Last : Break → Point → Standing S → ℕ → Standing S → Type 0
  Last Stopped p at left to = Stops p at left to
  Last Down p at left to = EndsIn ending.Down p at left to
  Last Failed p at left to = EndsIn ending.Failed p at left to

  -- no memory is left: in a call that is asked for, between calls, or at the stop
  abbrev pub Starves : Point → Standing S → ℕ → Standing S → Type 0
  Starves p at left to = EndsIn ending.Starved p at left to ⊎ ((at ≡ to) ⊎ StarvesThere p at left to)

  -- so much of a part of a block was run before the run ended in it
  pub record Reaches (f : Front) (from : Standing S) (left : ℕ) (Final : Point → Standing S → ℕ → Type 0) : Type 0 where
    pub rest : Front
    pub at : Standing S
    pub left' : ℕ
    pub becomes : Becomes f rest from left at left'
    pub final : Final (rest []) at left'

  -- a part of a block was run, and goes on as another part if nothing broke it off
  abbrev pub Ran : {T : Type 0} → Front → (T → Front) → Standing S → ℕ → Result (Flow T) NoMemory → Standing S → ℕ → Type 0
  Ran f g from left (Ok (Going t)) to left' = Becomes f (g t) from left to left'
  Ran f g from left (Ok (Breaking how)) to left' = Reaches f from left (λ p at l. Last how p at l to)
  Ran f g from left (Err e) to left' = Reaches f from left (λ p at l. Starves p at l to)

  -- a call was made, unless the run ended in it
  abbrev pub CallRan : Question → Standing S → ℕ → Result (Flow Answer) NoMemory → Standing S → ℕ → Type 0
  CallRan q from left (Ok (Going a)) to left' = Replied q a from left to left'
  CallRan q from left (Ok (Breaking how)) to left' = Last how (Waits q) from left to
  CallRan q from left (Err e) to left' = Starves (Waits q) from left to

  -- a call was made, whatever the stop: so it is where a whole call is left before that
  abbrev pub Made : Question → Standing S → Result (Flow Answer) NoMemory → Standing S → Type 0
  Made q from result to = (left left' : ℕ) → (IsSome stop → left ≡ suc left') → CallRan q from left result to left'

  -- power was made to fail within a call that was asked for, or before it
  pub record Cuts (within : Bool) (q : Question) (at to : Standing S) : Type 0 where
    pub falls : FallsWhere within Happened (Waits q) at to
    pub serves : Serves M file number to

  -- the same, or no memory was left for that
  abbrev pub CutEnds : Bool → Question → Standing S → Result (Unit {0}) NoMemory → Standing S → Type 0
  CutEnds within q at (Ok u) to = Cuts within q at to
  CutEnds within q at (Err e) to = FallsWhere within Lacking (Waits q) at to

-- the result of a call as that of a right side
abbrev pub value_result : Result (Flow Answer) NoMemory → Result (Flow Value) NoMemory
value_result (Ok (Going a)) = Ok (Going (value_in a))
value_result (Ok (Breaking how)) = Ok (Breaking how)
value_result (Err e) = Err e

-- the result of a call whose answer is dropped
abbrev pub without_answer : Result (Flow Answer) NoMemory → Result (Flow (Unit {0})) NoMemory
without_answer (Ok (Going a)) = Ok (Going tt)
without_answer (Ok (Breaking how)) = Ok (Breaking how)
without_answer (Err e) = Err e
