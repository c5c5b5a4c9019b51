-- How a run ends whose statements came to their end.
use Rattle.std.specs.Prelude.{◌≡◌, ℕ, ◌≤◌, false, IsTrue, IsSome, List, ◌++◌, map, take, length, Option, Some, None, Result, Ok, Err, ◌⊎◌}
use Rattle.ygg_list.specs.declared.memory.NoMemory.{NoMemory}
use Rattle.ygg_value.specs.declared.row.Value.{Value}
use Rattle.ygg_value.specs.declared.shape.Shape.{Shape}
use Rattle.ygg_syntax.specs.declared.grammar.BlockKind.{BlockKind}
use Rattle.ygg_syntax.specs.declared.tree.Block.{Block}
use Rattle.ygg_syntax.specs.declared.tree.Declared.{Declared}
use Rattle.ygg_syntax.specs.declared.tree.Expr.{Expr}
use Rattle.ygg_syntax.specs.declared.tree.File.{File}
use Rattle.ygg_eval_expr.specs.ygg_type_rules.TypeErrors.{none}
use Rattle.ygg_eval_expr.specs.ygg_type_rules.Scopes.{Scope}
use Rattle.ygg_eval_expr.specs.ygg_type_rules.Statements.{block_errors}
use Rattle.ygg_eval_expr.specs.ygg_meaning.Environments.{Name, Env, bind}
use Rattle.ygg_eval_expr.specs.ygg_meaning.Shapes.{values_fit}
use Rattle.ygg_eval_expr.specs.ygg_meaning.Progress.{answer_of, after}
use Rattle.ygg_eval.specs.ygg_meaning_laws.Kinds.{keeps}
use Rattle.ygg_eval.specs.declared.body.Stop.{Stop}
use Rattle.ygg_eval.specs.Lower.{Standing, Meaning, Happened, Lacking, Serves}
use Rattle.ygg_eval.specs.Ready.{eval_in, Fits}
use Rattle.ygg_eval.specs.Runs.{RunEnds}
use Rattle.ygg_eval.specs.declared.flow.Break.{Break}
use Rattle.ygg_eval.specs.declared.flow.Break.TheVariants as breaks
use Rattle.ygg_eval.specs.declared.run.Ended.{Ended}
use Rattle.ygg_eval.specs.declared.run.Ended.TheVariants.{Whole, Stopped, Short, Down, Failed}

-- A block without a type error in a scope that goes together with its names, which does what its kind may do; where that may call the machine below, or
-- the run is to be stopped, that serves.
pub record IsReady {S : Type 0} (M : Meaning S) (file : File) (kind : BlockKind) (number : ℕ) (stop : Option Stop) (b : Block) (env : Env)
    (at : Standing S) : Type 0 where
  pub scope : Scope
  pub shape : Option Shape
  pub fits : Fits M file number stop kind scope env at
  pub without_errors : IsTrue (none (block_errors b shape scope))
  pub keeps : IsTrue (keeps kind b)
  pub serves : IsSome stop → Serves M file number at

-- how a run of such a block ends, whatever values its first names have
abbrev pub BlockEnds : {S : Type 0} → Meaning S → File → ℕ → Option Stop → Block → Env → ℕ → Standing S → Result Ended NoMemory → List Value →
    Standing S → Type 0
BlockEnds M file number stop b env count from result values' to =
    (kind : BlockKind) (variables : List Declared) (values : List Value) (others : Env) → IsReady M file kind number stop b env from →
    env ≡ bind variables values ++ others → IsTrue (values_fit variables values) → length values ≡ count →
    RunEnds M file kind number (after (eval_in file) b env) from variables values stop result values' to

-- how a run ends that was broken off so
abbrev pub ended_by : Break → Ended
ended_by breaks.Stopped = Stopped
ended_by breaks.Down = Down
ended_by breaks.Failed = Failed

-- the values of names
abbrev pub values_in : Env → List Value
values_in = map (λ (e : Name × Value). e.1)

module _ {S : Type 0} (M : Meaning S) (file : File) (number : ℕ) (stop : Option Stop) (answer : Option Expr) (env : Env) (count left : ℕ)
    (from : Standing S) where
  -- the stop comes within a call, or after more calls
  pub record EndsShort (values : List Value) (to : Standing S) : Type 0 where
    pub s : Stop
    pub is : stop ≡ Some s
    pub more : s.within ≡ false → 1 ≤ left
    pub gives : values ≡ values_in (take count env)
    pub same : to ≡ from

  -- the stop comes after all calls, and power fails there
  pub record EndsStopped (to : Standing S) : Type 0 where
    pub s : Stop
    pub is : stop ≡ Some s
    pub before : s.within ≡ false
    pub reached : left ≡ 0
    pub loses : M.Loses file from Happened to
    pub serves : Serves M file number to

  -- no memory was left to make it fail
  pub record EndsStarved (to : Standing S) : Type 0 where
    pub s : Stop
    pub is : stop ≡ Some s
    pub before : s.within ≡ false
    pub reached : left ≡ 0
    pub loses : M.Loses file from Lacking to

  -- the answer and the first values are given where no stop is asked for
  abbrev pub EndsSo : Result Ended NoMemory → List Value → Standing S → Type 0
  EndsSo (Ok (Whole y)) values to = (stop ≡ None) × (y ≡ answer_of (eval_in file) answer env) × (values ≡ values_in (take count env)) × (to ≡ from)
  EndsSo (Ok Short) values to = EndsShort values to
  EndsSo (Ok Stopped) values to = EndsStopped to
  EndsSo (Ok Down) values to = ⊥
  EndsSo (Ok Failed) values to = ⊥
  EndsSo (Err e) values to = (to ≡ from) ⊎ EndsStarved to
