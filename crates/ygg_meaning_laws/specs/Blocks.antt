-- Typed blocks never get stuck.
use Rattle.std.specs.Prelude.{◌≡◌, Bool, IsTrue, List, is_none, Option, Some, None}
use Rattle.ygg_value.specs.declared.shape.Shape.{Shape}
use Rattle.ygg_syntax.specs.declared.grammar.BlockKind.{BlockKind}
use Rattle.ygg_syntax.specs.declared.tree.Expr.{Expr}
use Rattle.ygg_syntax.specs.declared.tree.Block.{Block}
use Rattle.ygg_meaning_laws.specs.TypeErrors.{none}
use Rattle.ygg_meaning_laws.specs.Scopes.{Scope}
use Rattle.ygg_meaning_laws.specs.Statements.{block_errors}
use Rattle.ygg_meaning.specs.Environments.{Env}
use Rattle.ygg_meaning.specs.Meaning.{Functions, value_with}
use Rattle.ygg_meaning.specs.Progress.{Eval, Question, Answer, Progress, Asks, Ends, after}
use Rattle.ygg_meaning_laws.specs.Agrees.{Agrees}
use Rattle.ygg_meaning_laws.specs.Kinds.{keeps}
use Rattle.ygg_meaning_laws.specs.Questions.{plain, answer_has, question_fits, AnswersFit, Follows}

-- how the expressions of a block are evaluated
abbrev pub eval_with : Functions → Eval
eval_with functions e env = value_with functions e (plain env)

-- whether a block that returns this has ended with an answer of the shape, or without one
abbrev pub is_returned : Option Expr → Option Shape → Answer → Bool
is_returned None shape a = is_none a
is_returned (Some e) shape a = answer_has shape a

-- A block asks only for what it may ask for. Where it ends, each name is there with a value of its shape, and the answer has its own.
pub record IsSound (functions : Functions) (kind : BlockKind) (scope : Scope) (b : Block) (shape : Option Shape) (env : Env) (p : Progress) : Type 0 where
  pub asks : (q : Question) → p ≡ Asks q → IsTrue (question_fits kind scope.lower q)
  pub follows : (left : Env) (a : Answer) → p ≡ Ends left a → Follows env left
  pub agrees : (left : Env) (a : Answer) → p ≡ Ends left a → Agrees functions scope (plain left)
  pub returns : (left : Env) (a : Answer) → p ≡ Ends left a → IsTrue (is_returned b.answer shape a)

-- a typed block of a kind is sound in each scope that agrees with the names, as long as the answers fit
abbrev pub BlocksAreSound : Type 0
BlocksAreSound =
    (functions : Functions) (kind : BlockKind) (scope : Scope) (b : Block) (shape : Option Shape) (env : Env) (answers : List Answer) →
    Agrees functions scope (plain env) → IsTrue (none (block_errors b shape scope)) → IsTrue (keeps kind b) →
    AnswersFit scope.lower (after (eval_with functions) b env) answers →
    IsSound functions kind scope b shape env (after (eval_with functions) b env answers)
