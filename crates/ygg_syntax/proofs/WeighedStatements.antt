-- A statement weighs one more than its parts.
use Rattle.std.proofs.Common.{◌≡◌, ℕ, ◌+◌, ◌*◌, List, sym, ap, ◌∙◌}
use Rattle.ygg_syntax.specs.declared.tree.Name.{Name}
use Rattle.ygg_syntax.specs.declared.tree.Numeral.{Numeral}
use Rattle.ygg_syntax.specs.declared.tree.Index.{Index}
use Rattle.ygg_syntax.specs.declared.tree.Source.{Source}
use Rattle.ygg_syntax.specs.declared.tree.Expr.{Expr}
use Rattle.ygg_syntax.specs.declared.tree.Block.{Block, out-Block, roll-out-Block, fold-Block}
use Rattle.ygg_syntax.specs.declared.tree.Stmt.{Stmt, roll-Stmt, map-Stmt}
use Rattle.ygg_syntax.specs.declared.tree.Stmt.TheOpen.{Stmt-F}
use Rattle.ygg_syntax.specs.declared.tree.Stmt.TheVariants as stmt
use Rattle.ygg_syntax.specs.declared.tree.Stmt.TheFolds.{fold-roll-Stmt, fold-roll-Block}
use Rattle.ygg_syntax.specs.Weights.{
  Weights,
  expr_weight,
  exprs_weight,
  source_weight,
  indices_weight,
  node_stmt_weight,
  node_block_weight,
  stmt_weight,
  block_weight,
}

module _ (ws : Weights) where
  -- the weight of a block, as the fold counts it inside a statement
  inside : Block → ℕ
  inside = fold-Block ℕ ℕ (node_stmt_weight ws) (node_block_weight ws)

  -- inside a statement a block weighs the same as alone
  inside_weighs : (b : Block) → inside b ≡ block_weight ws b
  unfolding inside
  inside_weighs b = ap inside (sym (roll-out-Block b)) ∙ fold-roll-Block ℕ ℕ (node_stmt_weight ws) (node_block_weight ws) (out-Block b)

  weighed : {s built : Stmt} (x : Stmt-F Stmt Block) → s ≡ built → roll-Stmt x ≡ built →
      stmt_weight ws s ≡ node_stmt_weight ws (map-Stmt Stmt Block ℕ ℕ (stmt_weight ws) inside x)
  unfolding inside
  weighed x is rolls = ap (stmt_weight ws) (is ∙ sym rolls) ∙ fold-roll-Stmt ℕ ℕ (node_stmt_weight ws) (node_block_weight ws) x

  pub weighed_let : {s : Stmt} (x : Name) (from : Source) → s ≡ stmt.Let x from → stmt_weight ws s ≡ 1 + source_weight ws from
  weighed_let x from is = weighed (Stmt-F.Let x from) is (stmt.rolls-Let x from)

  pub weighed_assign : {s : Stmt} (x : Name) (all : List Index) (from : Source) {seen : List Index} → s ≡ stmt.Assign x all from → seen ≡ all →
      stmt_weight ws s ≡ 1 + indices_weight ws seen + source_weight ws from
  weighed_assign x all from is list =
      weighed (Stmt-F.Assign x all from) is (stmt.rolls-Assign x all from)
      ∙ ap (λ (is : List Index). 1 + indices_weight ws is + source_weight ws from) (sym list)

  pub weighed_if : {s : Stmt} (test : Expr) (one other : Block) → s ≡ stmt.If test one other →
      stmt_weight ws s ≡ 1 + expr_weight ws test + block_weight ws one + block_weight ws other
  weighed_if test one other is =
      weighed (Stmt-F.If test one other) is (stmt.rolls-If test one other)
      ∙ ap (λ n. 1 + expr_weight ws test + n + inside other) (inside_weighs one)
      ∙ ap (λ n. 1 + expr_weight ws test + block_weight ws one + n) (inside_weighs other)

  pub weighed_for : {s : Stmt} (x : Name) (w n : Numeral) (each : Block) → s ≡ stmt.For x w n each →
      stmt_weight ws s ≡ 1 + n.value * (1 + block_weight ws each)
  weighed_for x w n each is =
      weighed (Stmt-F.For x w n each) is (stmt.rolls-For x w n each) ∙ ap (λ k. 1 + n.value * (1 + k)) (inside_weighs each)

  pub weighed_call : {s : Stmt} (f : Name) (es : List Expr) {seen : List Expr} → s ≡ stmt.Call f es → seen ≡ es →
      stmt_weight ws s ≡ 1 + exprs_weight ws seen
  weighed_call f es is list =
      weighed (Stmt-F.Call f es) is (stmt.rolls-Call f es) ∙ ap (λ (ys : List Expr). 1 + exprs_weight ws ys) (sym list)
