-- What the terms of an expression are made from.
use Rattle.std.specs.Prelude.{◌≡◌, ℕ, IsTrue, Some, List, [], ◌++◌, map, reverse, All}
use Rattle.ygg_value.specs.declared.operation.Op.{Op}
use Rattle.ygg_value.specs.declared.operation.Op.TheVariants as op
use Rattle.ygg_syntax.specs.declared.tree.Place.{Place}
use Rattle.ygg_syntax.specs.declared.tree.Name as tree_name
use Rattle.ygg_syntax.specs.declared.tree.Numeral.{Numeral}
use Rattle.ygg_syntax.specs.declared.tree.Quantifier.{Quantifier}
use Rattle.ygg_syntax.specs.declared.tree.Quantifier.TheVariants as quantifier
use Rattle.ygg_syntax.specs.declared.tree.Def.{Def}
use Rattle.ygg_syntax.specs.declared.tree.Expr.{Expr}
use Rattle.ygg_syntax.specs.declared.tree.Expr.TheVariants as tree
use Rattle.ygg_eval_expr.specs.ygg_type_rules.Names.{look_up}
use Rattle.ygg_eval_expr.specs.ygg_meaning_laws.Signature.{Signature}
use Rattle.ygg_eval_expr.specs.ygg_meaning_laws.TypeErrors.{none}
use Rattle.ygg_eval_expr.specs.ygg_meaning_laws.Scopes.{Scope}
use Rattle.ygg_eval_expr.specs.ygg_meaning_laws.Expressions.{typing}
use Rattle.ygg_eval_expr.specs.ygg_meaning_laws.Definitions.{definitions_errors, with_definitions}
use Rattle.ygg_eval_expr.specs.ygg_meaning_laws.Meaning.{functions_of}
use Rattle.ygg_eval_expr.specs.ygg_meaning_laws.Agrees.{Agrees}
use Rattle.ygg_eval_expr.specs.ygg_meaning_laws.Fitting.{all_fit}
use Rattle.ygg_shape.specs.ygg_rules.declared.rule.RuleKind.{RuleKind}
use Rattle.ygg_shape.specs.ygg_bank.Makes.{Make}
use Rattle.ygg_shape.specs.ygg_bank.Nodes.{CanBin}
use Rattle.ygg_shape.specs.ygg_bank.Values.{Inputs, Values, Fits}
use Rattle.ygg_shape.specs.ygg_bank.declared.node.Node.{Node}
use Rattle.ygg_shape.specs.ygg_shape_cells.Terms.{AreAlike, worth}
use Rattle.ygg_shape.specs.ygg_shape_cells.declared.terms.SymValue.{SymValue}
use Rattle.ygg_sym_runs.specs.Names.{SymEnv, SymScope}
use Rattle.ygg_sym_runs.specs.Exprs.{id_in, sym_value, sym_functions, SymFunctions, at_number}
use Rattle.ygg_sym_runs.specs.ExpressionMeaning.{SomeShape, ScopeShaped, scope_worth}
use Rattle.ygg_sym_runs.specs.declared.held.SymBinding.{SymBinding}
use Rattle.ygg_sym_runs.specs.declared.evaluator.SymEvaluator.{SymEvaluator}

-- names with values of terms
abbrev pub env_of : List SymBinding → SymEnv
env_of = map (λ (b : SymBinding). (b.name.now, b.value))

-- the definitions and the names that an expression sees
pub record SymKnown : Type 0 where
  pub defs : List Def
  pub scope : SymScope

-- what an evaluator knows
abbrev pub known_of : SymEvaluator → SymKnown
known_of e = record {
  defs = e.defs.now;
  scope = record { own = env_of e.own.now ++ env_of e.numbers.now; low = env_of e.low.now };
}

-- what definitions make
abbrev pub terms_called : List RuleKind → List Def → SymFunctions
terms_called kinds defs = sym_functions kinds (reverse defs)

-- the terms of an expression
abbrev pub terms_in : List RuleKind → SymKnown → Expr → Make SymValue
terms_in kinds k e = sym_value kinds (terms_called kinds k.defs) e k.scope

-- the expression has no type error where these names have values of the shapes that typing takes them to have, in every environment
pub record CanTerm (k : SymKnown) (nodes : List Node) (e : Expr) : Type 0 where
  pub scope : Scope
  pub defs : scope.defs ≡ with_definitions k.defs []
  pub sound : IsTrue (none (definitions_errors k.defs [] []))
  pub without_errors : IsTrue (none (typing e scope).type_errors)
  pub shaped : ScopeShaped nodes k.scope
  pub agrees : (inputs : Inputs) (v : Values) → Fits inputs v nodes → Agrees (functions_of k.defs) scope (scope_worth v k.scope)

-- the arguments fit the definition of that name, in every environment
pub record CanCall (defs : List Def) (nodes : List Node) (name : List ℕ) (args : List SymValue) : Type 0 where
  pub sound : IsTrue (none (definitions_errors defs [] []))
  pub shaped : All (SomeShape nodes) args
  pub fit : (inputs : Inputs) (v : Values) (d : Signature) → Fits inputs v nodes → look_up name (with_definitions defs []) ≡ Some d →
      IsTrue (all_fit d.arguments (map (worth v) args))

-- the test that all numbers or some number below a bound pass has terms
pub record CanQuantify (k : SymKnown) (nodes : List Node) (which : Quantifier) (x : tree_name.Name) (w n : Numeral) (e : Expr) : Type 0 where
  pub first : Place
  pub can : CanTerm k nodes (tree.Quantified first which x w n e)

-- equality is asked of two values of one shape, each other operation of two words to which it may be applied
abbrev pub CanOperate : List Node → Op → SymValue → SymValue → Type 0
CanOperate nodes op.Eq x y = AreAlike nodes x y
CanOperate nodes op.Ne x y = AreAlike nodes x y
CanOperate nodes o x y = CanBin nodes o (id_in x) (id_in y)

-- the operation that joins the tests
abbrev pub joining : Quantifier → Op
joining quantifier.All = op.And
joining quantifier.Any = op.Or

-- what the tests of no numbers are
abbrev pub start_of : Quantifier → ℕ
start_of quantifier.All = 1
start_of quantifier.Any = 0

-- the test at a number
abbrev pub test_at : List RuleKind → SymKnown → tree_name.Name → Numeral → Expr → ℕ → Make SymValue
test_at kinds k x w e i = at_number kinds (sym_value kinds (terms_called kinds k.defs) e) k.scope x.text w.value i
