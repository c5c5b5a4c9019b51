-- What an expression is evaluated with.
use Rattle.std.specs.Prelude.{◌≡◌, ℕ, Bool, true, false, ◌<◌, ◌≤◌, ◌^◌, IsTrue, List, [], ◌∷◌, ◌++◌, length, slice_get, Some}
use Rattle.ygg_value.specs.Words.{word}
use Rattle.ygg_value.specs.declared.row.Value.{Value}
use Rattle.ygg_value.specs.declared.row.Value.TheVariants.{Word}
use Rattle.ygg_syntax.specs.declared.tree.Def.{Def}
use Rattle.ygg_syntax.specs.declared.tree.Expr.{Expr}
use Rattle.ygg_syntax.specs.declared.tree.Numeral.{Numeral}
use Rattle.ygg_syntax.specs.declared.tree.Quantifier.{Quantifier}
use Rattle.ygg_syntax.specs.declared.tree.Quantifier.TheVariants.{All, Any}
use Rattle.ygg_meaning_laws.specs.ygg_syntax.Definitions.{WeighsAsAt}
use Rattle.ygg_meaning_laws.specs.ygg_type_rules.Names.{look_up}
use Rattle.ygg_meaning_laws.specs.Signature.{Signature}
use Rattle.ygg_meaning_laws.specs.TypeErrors.{none}
use Rattle.ygg_meaning_laws.specs.Scopes.{Scope}
use Rattle.ygg_meaning_laws.specs.Expressions.{typing}
use Rattle.ygg_meaning_laws.specs.Definitions.{definitions_errors, with_definitions}
use Rattle.ygg_meaning_laws.specs.Environments.{Env}
use Rattle.ygg_meaning_laws.specs.Meaning.{value_with, functions_of}
use Rattle.ygg_meaning_laws.specs.Meaning as meaning
use Rattle.ygg_meaning_laws.specs.Fitting.{all_fit}
use Rattle.ygg_meaning_laws.specs.Agrees.{Agrees}
use Rattle.ygg_eval_expr.specs.declared.evaluator.Evaluator.{Evaluator}
use Rattle.ygg_eval_expr.specs.Held.{env_of}

-- the definitions that are seen, and names with values
pub record Known : Type 0 where
  pub defs : List Def
  pub own : Env
  pub low : Env

-- the names with values
abbrev pub scope_in : Known → meaning.Scope
scope_in k = record { own = k.own; low = k.low }

-- the value of an expression
abbrev pub value_in : Known → Expr → Value
value_in k e = value_with (functions_of k.defs) e (scope_in k)

-- whether the test is to pass at every number
abbrev pub is_all : Quantifier → Bool
is_all All = true
is_all Any = false

-- with one more name, whose value is a word
abbrev pub with_number : Known → List ℕ → ℕ → ℕ → Known
with_number k name width i = record k { own = k.own ++ (name, Word (word width i)) ∷ [] }

-- what an evaluator knows
abbrev pub known_of : Evaluator → Known
known_of e = record { defs = e.defs.now; own = env_of e.own.now ++ env_of e.numbers.now; low = env_of e.low.now }

-- the expression has no type error where these names have values of the shapes that typing takes them to have
pub record CanEvaluate (k : Known) (e : Expr) : Type 0 where
  pub scope : Scope
  pub defs : scope.defs ≡ with_definitions k.defs []
  pub sound : IsTrue (none (definitions_errors k.defs [] []))
  pub agrees : Agrees (functions_of k.defs) scope (scope_in k)
  pub without_errors : IsTrue (none (typing e scope).type_errors)

-- the arguments fit the definition of that name
pub record CanCall (defs : List Def) (name : List ℕ) (args : List Value) : Type 0 where
  pub sound : IsTrue (none (definitions_errors defs [] []))
  pub fit : (d : Signature) → look_up name (with_definitions defs []) ≡ Some d → IsTrue (all_fit d.arguments args)

-- the numbers below the bound have the width, and the expression can be evaluated at each of them
pub record CanQuantify (k : Known) (name : List ℕ) (w n : Numeral) (e : Expr) : Type 0 where
  pub least : 1 ≤ w.value
  pub most : w.value ≤ 64
  pub bound : n.value ≤ 2 ^ w.value
  pub each : (i : ℕ) → i < 2 ^ w.value → CanEvaluate (with_number k name w.value i) e

-- the definition at this place has the name
pub record IsDefinition (defs : List Def) (name : List ℕ) (place : ℕ) : Type 0 where
  pub within : place < length defs
  pub named : (d : Def) → slice_get defs place ≡ Some d → d.name.text ≡ name
  pub weighs : WeighsAsAt defs name place
