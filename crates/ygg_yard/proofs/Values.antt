-- What the expressions of a file that is made are worth, and what its statements do.
use Rattle.std.proofs.Common.{◌≡◌, List, [], ◌∷◌, sym, ap, ◌∙◌}
use Rattle.ygg_value.specs.Words.{word}
use Rattle.ygg_value.specs.Values.{apply_value}
use Rattle.ygg_value.specs.declared.operation.Op.{Op}
use Rattle.ygg_value.specs.declared.row.Value.{Value}
use Rattle.ygg_value.specs.declared.row.Value.TheVariants as value
use Rattle.ygg_syntax.specs.declared.tree.Place.{Place}
use Rattle.ygg_syntax.specs.declared.tree.Name.{Name}
use Rattle.ygg_syntax.specs.declared.tree.Numeral.{Numeral}
use Rattle.ygg_syntax.specs.declared.tree.Index.{Index}
use Rattle.ygg_syntax.specs.declared.tree.Expr.{Expr}
use Rattle.ygg_syntax.specs.declared.tree.Expr.TheVariants as expr
use Rattle.ygg_syntax.specs.declared.tree.Expr.TheOpen.{Expr-F}
use Rattle.ygg_syntax.specs.declared.tree.Expr.TheFolds.{fold-roll-Expr}
use Rattle.ygg_syntax.specs.declared.tree.Source.{Source}
use Rattle.ygg_syntax.specs.declared.tree.Stmt.TheVariants as stmt
use Rattle.ygg_syntax.specs.declared.tree.Stmt.TheOpen.{Stmt-F}
use Rattle.ygg_syntax.specs.declared.tree.Stmt.TheFolds.{fold-roll-Stmt}
use Rattle.ygg_meaning_laws.specs.ygg_meaning.Environments.{look_up}
use Rattle.ygg_meaning_laws.specs.ygg_meaning.Meaning.{Functions, Scope, node_value, value_with, row_of}
use Rattle.ygg_meaning_laws.specs.ygg_meaning.Progress.{Eval, Run, stmt_run, block_run, run_of}

abbrev Means : Type 0
Means = Scope → Value

module _ (F : Functions) (s : Scope) where
  abbrev worth : Expr → Value
  worth e = value_with F e s

  pub worth_constant : (v w : Numeral) → worth (expr.Constant v w) ≡ value.Word (word w.value v.value)
  worth_constant v w = ap worth (sym (expr.rolls-Constant v w))
      ∙ ap (λ (m : Means). m s) (fold-roll-Expr Means (node_value F) (Expr-F.Constant v w))

  pub worth_variable : (x : Name) → worth (expr.Variable x) ≡ look_up x.text s.own
  worth_variable x = ap worth (sym (expr.rolls-Variable x)) ∙ ap (λ (m : Means). m s) (fold-roll-Expr Means (node_value F) (Expr-F.Variable x))

  pub worth_low : (at : Place) (x : Name) → worth (expr.Low at x) ≡ look_up x.text s.low
  worth_low at x = ap worth (sym (expr.rolls-Low at x)) ∙ ap (λ (m : Means). m s) (fold-roll-Expr Means (node_value F) (Expr-F.Low at x))

  -- a row of one word
  pub worth_row : (first : Place) (e : Expr) → worth (expr.Row first (e ∷ [])) ≡ value.Row (row_of (worth e ∷ []))
  worth_row first e = ap worth (sym (expr.rolls-Row first (e ∷ [])))
      ∙ ap (λ (m : Means). m s) (fold-roll-Expr Means (node_value F) (Expr-F.Row first (e ∷ [])))

  pub worth_binary : (first : Place) (a : Expr) (op : Op) (at : Place) (b : Expr) → worth (expr.Binary first a op at b) ≡ apply_value op (worth a) (worth b)
  worth_binary first a op at b = ap worth (sym (expr.rolls-Binary first a op at b))
      ∙ ap (λ (m : Means). m s) (fold-roll-Expr Means (node_value F) (Expr-F.Binary first a op at b))

pub run_assign : (eval : Eval) (x : Name) (is : List Index) (from : Source) → run_of eval (stmt.Assign x is from) ≡ stmt_run eval (Stmt-F.Assign x is from)
run_assign eval x is from = ap (run_of eval) (sym (stmt.rolls-Assign x is from)) ∙ fold-roll-Stmt Run Run (stmt_run eval) block_run (Stmt-F.Assign x is from)

pub run_call : (eval : Eval) (f : Name) (es : List Expr) → run_of eval (stmt.Call f es) ≡ stmt_run eval (Stmt-F.Call f es)
run_call eval f es = ap (run_of eval) (sym (stmt.rolls-Call f es)) ∙ fold-roll-Stmt Run Run (stmt_run eval) block_run (Stmt-F.Call f es)
