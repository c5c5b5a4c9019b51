-- What the terms of an expression are worth.
use Rattle.std.specs.Prelude.{◌≡◌, IsTrue, List, [], map, All, reverse}
use Rattle.ygg_value.specs.declared.row.Value.{Value}
use Rattle.ygg_value.specs.declared.shape.Shape.{Shape}
use Rattle.ygg_syntax.specs.declared.tree.Def.{Def}
use Rattle.ygg_syntax.specs.declared.tree.Expr.{Expr}
use Rattle.ygg_eval_expr.specs.ygg_meaning_laws.TypeErrors.{none}
use Rattle.ygg_eval_expr.specs.ygg_meaning_laws.Scopes.{Scope}
use Rattle.ygg_eval_expr.specs.ygg_meaning_laws.Expressions.{typing}
use Rattle.ygg_eval_expr.specs.ygg_meaning_laws.Definitions.{definitions_errors, with_definitions}
use Rattle.ygg_eval_expr.specs.ygg_meaning_laws.Environments.{Name, Env}
use Rattle.ygg_eval_expr.specs.ygg_meaning_laws.Meaning.{value_with, functions_of}
use Rattle.ygg_eval_expr.specs.ygg_meaning_laws.Meaning as meaning
use Rattle.ygg_eval_expr.specs.ygg_meaning_laws.Agrees.{Agrees}
use Rattle.ygg_shape.specs.ygg_rules.declared.rule.RuleKind.{RuleKind}
use Rattle.ygg_shape.specs.ygg_bank.Makes.{Make}
use Rattle.ygg_shape.specs.ygg_bank.Nodes.{IsBank, Extends}
use Rattle.ygg_shape.specs.ygg_bank.Values.{Inputs, Values, InputsFit, Fits, value_of}
use Rattle.ygg_shape.specs.ygg_bank.declared.node.Node.{Node}
use Rattle.ygg_shape.specs.ygg_shape_cells.Terms.{IsShaped, worth}
use Rattle.ygg_shape.specs.ygg_shape_cells.declared.terms.SymValue.{SymValue}
use Rattle.ygg_sym_runs.specs.Names.{SymEnv, SymScope}
use Rattle.ygg_sym_runs.specs.Exprs.{sym_value, sym_functions}

-- the terms of the value stand among the nodes, and it has some shape
pub record SomeShape (nodes : List Node) (x : SymValue) : Type 0 where
  pub shape : Shape
  pub stands : IsShaped nodes shape x

-- each value of the names stands among the nodes with some shape
abbrev pub EnvShaped : List Node → SymEnv → Type 0
EnvShaped nodes = All (λ (b : Name × SymValue). SomeShape nodes b.1)

-- so do those of both kinds of names that an expression sees
pub record ScopeShaped (nodes : List Node) (scope : SymScope) : Type 0 where
  pub own : EnvShaped nodes scope.own
  pub low : EnvShaped nodes scope.low

-- a step only adds nodes
abbrev pub Grows : {A : Type 0} → Make A → Type 0
Grows m = (nodes : List Node) → Extends nodes (m nodes).nodes

-- under words that fit the nodes after the step, they and its result have the property
abbrev pub Gives : {A : Type 0} → Inputs → Values → Make A → List Node → (List Node → A → Type 0) → Type 0
Gives inputs v m nodes P = Fits inputs v (m nodes).nodes → P (m nodes).nodes (m nodes).value

module _ (v : Values) where
  -- names with values, where the term at each place has the given word
  abbrev pub worths : SymEnv → Env
  worths = map (λ (b : Name × SymValue). (b.0, worth v b.1))

  -- a scope of values, where the term at each place has the given word
  abbrev pub scope_worth : SymScope → meaning.Scope
  scope_worth scope = record { own = worths scope.own; low = worths scope.low }

  -- a value of some shape that is worth this
  pub record IsWorth (want : Value) (nodes : List Node) (x : SymValue) : Type 0 where
    pub shaped : SomeShape nodes x
    pub is : worth v x ≡ want

-- In every environment in which the names have values of the shapes that typing takes them to have, the terms of an expression without a
-- type error are worth its value.
abbrev pub ExpressionsMean : Type 0
ExpressionsMean =
    (kinds : List RuleKind) (defs : List Def) (e : Expr) (scope : Scope) (from : SymScope) (nodes : List Node) →
    IsTrue (none (definitions_errors defs [] [])) → scope.defs ≡ with_definitions defs [] → IsTrue (none (typing e scope).type_errors) →
    ScopeShaped nodes from →
    let out = sym_value kinds (sym_functions kinds (reverse defs)) e from nodes in
    IsBank out.nodes → (inputs : Inputs) → InputsFit inputs out.nodes →
    let v = value_of inputs out.nodes in
    Agrees (functions_of defs) scope (scope_worth v from) → IsWorth v (value_with (functions_of defs) e (scope_worth v from)) out.nodes out.value
