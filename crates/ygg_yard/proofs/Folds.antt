-- Types, weights and choices of what a file that is made consists of, laid open.
use Rattle.std.proofs.Common.{◌≡◌, ℕ, List, [], ◌∷◌, sym, ap, ◌∙◌}
use Rattle.ygg_value.specs.declared.operation.Op.{Op}
use Rattle.ygg_syntax.specs.declared.tree.Place.{Place}
use Rattle.ygg_syntax.specs.declared.tree.Name.{Name}
use Rattle.ygg_syntax.specs.declared.tree.Numeral.{Numeral}
use Rattle.ygg_syntax.specs.declared.tree.Index.{Index}
use Rattle.ygg_syntax.specs.declared.tree.Expr.{Expr}
use Rattle.ygg_syntax.specs.declared.tree.Expr.TheVariants as expr
use Rattle.ygg_syntax.specs.declared.tree.Expr.TheOpen.{Expr-F}
use Rattle.ygg_syntax.specs.declared.tree.Expr.TheFolds.{fold-roll-Expr}
use Rattle.ygg_syntax.specs.declared.tree.Source.{Source}
use Rattle.ygg_syntax.specs.declared.tree.Stmt.TheVariants as stmt
use Rattle.ygg_syntax.specs.declared.tree.Stmt.TheOpen.{Stmt-F}
use Rattle.ygg_syntax.specs.declared.tree.Stmt.TheFolds.{fold-roll-Stmt}
use Rattle.ygg_syntax.specs.Choices.{node_steps, block_steps, stmt_steps}
use Rattle.ygg_type_rules.specs.ygg_syntax.Weights.{Weights, node_weight, expr_weight, node_stmt_weight, node_block_weight, stmt_weight}
use Rattle.ygg_type_rules.specs.TypeErrors.{TypeErrors}
use Rattle.ygg_type_rules.specs.Scopes.{Scope}
use Rattle.ygg_type_rules.specs.Expressions.{Typing, node_typing, typing}
use Rattle.ygg_type_rules.specs.Statements.{Walked, node_walked, node_inside, walked}

abbrev Types : Type 0
Types = Scope → Typing

module _ (s : Scope) where
  abbrev type : Expr → Typing
  type e = typing e s

  pub type_constant : (v w : Numeral) → type (expr.Constant v w) ≡ node_typing (Expr-F.Constant v w) s
  type_constant v w = ap type (sym (expr.rolls-Constant v w)) ∙ ap (λ (m : Types). m s) (fold-roll-Expr Types node_typing (Expr-F.Constant v w))

  pub type_variable : (x : Name) → type (expr.Variable x) ≡ node_typing (Expr-F.Variable x) s
  type_variable x = ap type (sym (expr.rolls-Variable x)) ∙ ap (λ (m : Types). m s) (fold-roll-Expr Types node_typing (Expr-F.Variable x))

  pub type_low : (at : Place) (x : Name) → type (expr.Low at x) ≡ node_typing (Expr-F.Low at x) s
  type_low at x = ap type (sym (expr.rolls-Low at x)) ∙ ap (λ (m : Types). m s) (fold-roll-Expr Types node_typing (Expr-F.Low at x))

  -- a row of one word
  pub type_row : (first : Place) (e : Expr) → type (expr.Row first (e ∷ [])) ≡ node_typing (Expr-F.Row first (typing e ∷ [])) s
  type_row first e = ap type (sym (expr.rolls-Row first (e ∷ [])))
      ∙ ap (λ (m : Types). m s) (fold-roll-Expr Types node_typing (Expr-F.Row first (e ∷ [])))

  pub type_binary : (first : Place) (a : Expr) (op : Op) (at : Place) (b : Expr) →
      type (expr.Binary first a op at b) ≡ node_typing (Expr-F.Binary first (typing a) op at (typing b)) s
  type_binary first a op at b = ap type (sym (expr.rolls-Binary first a op at b))
      ∙ ap (λ (m : Types). m s) (fold-roll-Expr Types node_typing (Expr-F.Binary first a op at b))

abbrev Walk : Type 0
Walk = Scope → Walked

abbrev Inside : Type 0
Inside = Scope → TypeErrors

pub walked_assign : (x : Name) (is : List Index) (from : Source) → walked (stmt.Assign x is from) ≡ node_walked (Stmt-F.Assign x is from)
walked_assign x is from = ap walked (sym (stmt.rolls-Assign x is from)) ∙ fold-roll-Stmt Walk Inside node_walked node_inside (Stmt-F.Assign x is from)

pub walked_call : (f : Name) (es : List Expr) → walked (stmt.Call f es) ≡ node_walked (Stmt-F.Call f es)
walked_call f es = ap walked (sym (stmt.rolls-Call f es)) ∙ fold-roll-Stmt Walk Inside node_walked node_inside (Stmt-F.Call f es)

module _ (known : Weights) where
  pub weight_constant : (v w : Numeral) → expr_weight known (expr.Constant v w) ≡ 1
  weight_constant v w = ap (expr_weight known) (sym (expr.rolls-Constant v w)) ∙ fold-roll-Expr ℕ (node_weight known) (Expr-F.Constant v w)

  pub weight_variable : (x : Name) → expr_weight known (expr.Variable x) ≡ 1
  weight_variable x = ap (expr_weight known) (sym (expr.rolls-Variable x)) ∙ fold-roll-Expr ℕ (node_weight known) (Expr-F.Variable x)

  pub weight_low : (at : Place) (x : Name) → expr_weight known (expr.Low at x) ≡ 1
  weight_low at x = ap (expr_weight known) (sym (expr.rolls-Low at x)) ∙ fold-roll-Expr ℕ (node_weight known) (Expr-F.Low at x)

  pub weight_row : (first : Place) (e : Expr) → expr_weight known (expr.Row first (e ∷ [])) ≡ node_weight known (Expr-F.Row first (expr_weight known e ∷ []))
  weight_row first e = ap (expr_weight known) (sym (expr.rolls-Row first (e ∷ []))) ∙ fold-roll-Expr ℕ (node_weight known) (Expr-F.Row first (e ∷ []))

  pub weight_binary : (first : Place) (a : Expr) (op : Op) (at : Place) (b : Expr) →
      expr_weight known (expr.Binary first a op at b) ≡ node_weight known (Expr-F.Binary first (expr_weight known a) op at (expr_weight known b))
  weight_binary first a op at b = ap (expr_weight known) (sym (expr.rolls-Binary first a op at b))
      ∙ fold-roll-Expr ℕ (node_weight known) (Expr-F.Binary first a op at b)

  pub weight_assign : (x : Name) (is : List Index) (from : Source) →
      stmt_weight known (stmt.Assign x is from) ≡ node_stmt_weight known (Stmt-F.Assign x is from)
  weight_assign x is from = ap (stmt_weight known) (sym (stmt.rolls-Assign x is from))
      ∙ fold-roll-Stmt ℕ ℕ (node_stmt_weight known) (node_block_weight known) (Stmt-F.Assign x is from)

  pub weight_call : (f : Name) (es : List Expr) → stmt_weight known (stmt.Call f es) ≡ node_stmt_weight known (Stmt-F.Call f es)
  weight_call f es = ap (stmt_weight known) (sym (stmt.rolls-Call f es))
      ∙ fold-roll-Stmt ℕ ℕ (node_stmt_weight known) (node_block_weight known) (Stmt-F.Call f es)

pub steps_assign : (choice call : ℕ) (x : Name) (is : List Index) (from : Source) →
    stmt_steps choice call (stmt.Assign x is from) ≡ node_steps choice call (Stmt-F.Assign x is from)
steps_assign choice call x is from = ap (stmt_steps choice call) (sym (stmt.rolls-Assign x is from))
    ∙ fold-roll-Stmt ℕ ℕ (node_steps choice call) block_steps (Stmt-F.Assign x is from)
