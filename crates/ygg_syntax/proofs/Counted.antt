-- A statement counts what its parts do.
use Rattle.std.proofs.Common.{◌≡◌, ℕ, ◌+◌, ◌*◌, List, sum, map, sym, ap, ◌∙◌}
use Rattle.ygg_syntax.specs.declared.tree.Name.{Name}
use Rattle.ygg_syntax.specs.declared.tree.Numeral.{Numeral}
use Rattle.ygg_syntax.specs.declared.tree.Index.{Index}
use Rattle.ygg_syntax.specs.declared.tree.Source.{Source}
use Rattle.ygg_syntax.specs.declared.tree.Expr.{Expr}
use Rattle.ygg_syntax.specs.declared.tree.Block.{Block, out-Block, roll-out-Block, fold-Block}
use Rattle.ygg_syntax.specs.declared.tree.Stmt.{Stmt, roll-Stmt, map-Stmt}
use Rattle.ygg_syntax.specs.declared.tree.Stmt.TheOpen.{Stmt-F}
use Rattle.ygg_syntax.specs.declared.tree.Stmt.TheVariants as stmt
use Rattle.ygg_syntax.specs.declared.tree.Stmt.TheFolds.{fold-roll-Stmt, fold-roll-Block}
use Rattle.ygg_syntax.specs.Choices.{source_steps, node_steps, block_steps, stmt_steps, steps_of}

module _ (choice call : ℕ) where
  -- what a block counts inside a statement
  inside : Block → ℕ
  inside = fold-Block ℕ ℕ (node_steps choice call) block_steps

  -- inside a statement a block counts the same as alone
  inside_counts : (b : Block) → inside b ≡ steps_of choice call b
  unfolding inside
  inside_counts b = ap inside (sym (roll-out-Block b)) ∙ fold-roll-Block ℕ ℕ (node_steps choice call) block_steps (out-Block b)

  counted : {s built : Stmt} (x : Stmt-F Stmt Block) → s ≡ built → roll-Stmt x ≡ built →
      stmt_steps choice call s ≡ node_steps choice call (map-Stmt Stmt Block ℕ ℕ (stmt_steps choice call) inside x)
  unfolding inside
  counted x is rolls = ap (stmt_steps choice call) (is ∙ sym rolls) ∙ fold-roll-Stmt ℕ ℕ (node_steps choice call) block_steps x

  -- the blocks are seen as lists of statements
  seen : (b : Block) {ss : List Stmt} → ss ≡ b.statements → inside b ≡ sum (map (stmt_steps choice call) ss)
  seen b list = inside_counts b ∙ ap (λ (xs : List Stmt). sum (map (stmt_steps choice call) xs)) (sym list)

  pub counted_let : {s : Stmt} (x : Name) (from : Source) → s ≡ stmt.Let x from → stmt_steps choice call s ≡ source_steps choice call from
  counted_let x from is = counted (Stmt-F.Let x from) is (stmt.rolls-Let x from)

  pub counted_assign : {s : Stmt} (x : Name) (all : List Index) (from : Source) → s ≡ stmt.Assign x all from →
      stmt_steps choice call s ≡ source_steps choice call from
  counted_assign x all from is = counted (Stmt-F.Assign x all from) is (stmt.rolls-Assign x all from)

  pub counted_if : {s : Stmt} (test : Expr) (f g : Block) {fs gs : List Stmt} → s ≡ stmt.If test f g → fs ≡ f.statements → gs ≡ g.statements →
      stmt_steps choice call s ≡ sum (map (stmt_steps choice call) fs) + sum (map (stmt_steps choice call) gs)
  counted_if test f g {fs} is left right =
      counted (Stmt-F.If test f g) is (stmt.rolls-If test f g)
      ∙ ap (λ n. n + inside g) (seen f left) ∙ ap (λ n. sum (map (stmt_steps choice call) fs) + n) (seen g right)

  pub counted_for : {s : Stmt} (x : Name) (w n : Numeral) (each : Block) {ss : List Stmt} → s ≡ stmt.For x w n each → ss ≡ each.statements →
      stmt_steps choice call s ≡ n.value * sum (map (stmt_steps choice call) ss)
  counted_for x w n each is list =
      counted (Stmt-F.For x w n each) is (stmt.rolls-For x w n each) ∙ ap (λ k. n.value * k) (seen each list)

  pub counted_call : {s : Stmt} (f : Name) (es : List Expr) → s ≡ stmt.Call f es → stmt_steps choice call s ≡ call
  counted_call f es is = counted (Stmt-F.Call f es) is (stmt.rolls-Call f es)
