-- How far a block gets when it is run from its beginning with a list of answers to its calls and choices.
use Rattle.std.specs.Prelude.{ℕ, zero, suc, ◌+◌, if◌then◌else◌, List, [], ◌∷◌, ◌++◌, map, length, take, Option, Some, None}
use Rattle.ygg_value.specs.Words.{word}
use Rattle.ygg_value.specs.Values.{word_in, with_part}
use Rattle.ygg_value.specs.declared.row.Value.{Value}
use Rattle.ygg_value.specs.declared.row.Value.TheVariants.{Word}
use Rattle.ygg_syntax.specs.declared.tree.Expr.{Expr}
use Rattle.ygg_syntax.specs.declared.tree.Index.{Index}
use Rattle.ygg_syntax.specs.declared.tree.Source.{Source}
use Rattle.ygg_syntax.specs.declared.tree.Source.TheVariants as source
use Rattle.ygg_syntax.specs.declared.tree.Stmt.{Stmt}
use Rattle.ygg_syntax.specs.declared.tree.Block.{Block}
use Rattle.ygg_syntax.specs.declared.tree.Stmt.TheOpen.{Stmt-F, Block-F}
use Rattle.ygg_syntax.specs.declared.tree.Stmt.TheFolds.{fold-Stmt}
use Rattle.ygg_meaning.specs.Environments.{Name, Env, nothing, look_up, assign}
use Rattle.ygg_meaning.specs.Meaning.{is_one}

-- what a block waits for: a choice, or the answer of a call
pub data Question : Type 0 where
  Choice : Question
  Call : (name : Name) (args : List Value) → Question

-- what it is given: a value, or none where a call has no answer
abbrev pub Answer : Type 0
Answer = Option Value

-- where a block has got to
pub data Progress : Type 0 where
  -- the answers are used up, and the block waits
  Asks : (question : Question) → Progress
  -- the block has ended with all answers used
  Ends : (env : Env) (answer : Answer) → Progress
  -- the block has ended, and answers are left over
  Stray : Progress

-- where a part of a block has got to: it waits, or it is done and goes on with the answers that are left
pub data Point : Type 0 where
  Waits : (question : Question) → Point
  Goes : (env : Env) (left : List Answer) → Point

-- what a part of a block does with the names that it sees and the answers that are left
abbrev pub Run : Type 0
Run = Env → List Answer → Point

-- how expressions are evaluated
abbrev pub Eval : Type 0
Eval = Expr → Env → Value

-- one part after another
abbrev pub and_then : Point → Run → Point
and_then (Waits q) next = Waits q
and_then (Goes env left) next = next env left

-- the parts in turn
abbrev pub in_turn : List Run → Run
in_turn [] env answers = Goes env answers
in_turn (r ∷ rs) env answers = and_then (r env answers) (in_turn rs)

-- the names that are new since the block began are forgotten
abbrev pub forget_since : Env → Point → Point
forget_since before (Waits q) = Waits q
forget_since before (Goes env left) = Goes (take (length before) env) left

-- a question, and what is done with its answer
abbrev pub ask : Question → List Answer → (Answer → List Answer → Point) → Point
ask q [] next = Waits q
ask q (a ∷ left) next = next a left

-- the value of an answer; none, which no typed file uses, counts as a single digit 0
abbrev pub value_in : Answer → Value
value_in (Some v) = v
value_in None = nothing

-- a block that is run for count numbers, from i on
abbrev pub for_each : ℕ → ℕ → (ℕ → Run) → Run
for_each zero i body env answers = Goes env answers
for_each (suc count) i body env answers = and_then (body i env answers) (for_each count (i + 1) body)

-- the values of arguments
abbrev pub values_of : Eval → List Expr → Env → List Value
values_of eval es env = map (λ e. eval e env) es

-- the places that the indices name
abbrev pub indices_of : Eval → List Index → Env → List ℕ
indices_of eval is env = map (λ (i : Index). (word_in (eval i.at env)).bits) is

-- the value of a right side, handed on
abbrev pub from_source : Eval → Source → Env → List Answer → (Value → List Answer → Point) → Point
from_source eval (source.Value e) env answers next = next (eval e env) answers
from_source eval (source.Choose at) env answers next = ask Choice answers (λ a left. next (value_in a) left)
from_source eval (source.Call at f es) env answers next = ask (Call f.text (values_of eval es env)) answers (λ a left. next (value_in a) left)

-- the variable, or the part of it that the indices name, gets the value
abbrev pub assigned : Eval → Env → Name → List Index → Value → Env
assigned eval env name is v = assign env name (with_part (look_up name env) (indices_of eval is env) v)

-- a statement, where the runs of the blocks inside are known
abbrev pub stmt_run : Eval → Stmt-F Run Run → Run
stmt_run eval (Stmt-F.Let x s) env answers = from_source eval s env answers (λ v left. Goes (env ++ (x.text, v) ∷ []) left)
stmt_run eval (Stmt-F.Assign x is s) env answers = from_source eval s env answers (λ v left. Goes (assigned eval env x.text is v) left)
stmt_run eval (Stmt-F.If test first second) env answers = if is_one (eval test env) then first env answers else second env answers
stmt_run eval (Stmt-F.For x w n each) env answers =
    for_each n.value 0 (λ i env answers. forget_since env (each (env ++ (x.text, Word (word w.value i)) ∷ []) answers)) env answers
stmt_run eval (Stmt-F.Call f es) env answers = ask (Call f.text (values_of eval es env)) answers (λ a left. Goes env left)

-- a block inside another, of which the statements' runs are known
abbrev pub block_run : Block-F Run Run → Run
block_run b env answers = forget_since env (in_turn b.statements env answers)

-- a statement
abbrev pub run_of : Eval → Stmt → Run
run_of eval = fold-Stmt Run Run (stmt_run eval) block_run

-- what a block returns
abbrev pub answer_of : Eval → Option Expr → Env → Answer
answer_of eval None env = None
answer_of eval (Some e) env = Some (eval e env)

-- the progress of a block that began with the names before and has got to a point
abbrev pub ended : Eval → Option Expr → Env → Point → Progress
ended eval answer before (Waits q) = Asks q
ended eval answer before (Goes env []) = Ends (take (length before) env) (answer_of eval answer env)
ended eval answer before (Goes env (a ∷ left)) = Stray

-- the progress of a block that is run from its beginning with these answers
abbrev pub after : Eval → Block → Env → List Answer → Progress
after eval b env answers = ended eval b.answer env (in_turn (map (run_of eval) b.statements) env answers)
