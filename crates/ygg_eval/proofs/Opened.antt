-- Statements and blocks inside others, laid open by one layer: what they do, what typing says of them, and what they may.
use Rattle.std.proofs.Common.{◌≡◌, Bool, List, None, sym, ap, ◌∙◌}
use Rattle.ygg_syntax.specs.declared.grammar.BlockKind.{BlockKind}
use Rattle.ygg_syntax.specs.declared.tree.Name.{Name}
use Rattle.ygg_syntax.specs.declared.tree.Numeral.{Numeral}
use Rattle.ygg_syntax.specs.declared.tree.Index.{Index}
use Rattle.ygg_syntax.specs.declared.tree.Expr.{Expr}
use Rattle.ygg_syntax.specs.declared.tree.Source.{Source}
use Rattle.ygg_syntax.specs.declared.tree.Stmt.TheVariants as tree
use Rattle.ygg_syntax.specs.declared.tree.Stmt.TheOpen.{Stmt-F}
use Rattle.ygg_syntax.specs.declared.tree.Stmt.TheFolds.{fold-roll-Stmt}
use Rattle.ygg_syntax.specs.declared.tree.Block.{Block, fold-Block, fold_out-Block}
use Rattle.ygg_eval_expr.specs.ygg_type_rules.TypeErrors.{TypeErrors}
use Rattle.ygg_eval_expr.specs.ygg_type_rules.Scopes.{Scope}
use Rattle.ygg_eval_expr.specs.ygg_type_rules.Statements.{Walked, node_walked, node_inside, walked, block_errors}
use Rattle.ygg_eval_expr.specs.ygg_meaning.Progress.{Eval, Run, stmt_run, block_run, run_of}
use Rattle.ygg_eval.specs.Ready.{inside_run}
use Rattle.ygg_eval.specs.ygg_meaning_laws.Kinds.{node_keeps, node_all_keep, stmt_keeps, keeps}

module _ (eval : Eval) where
  abbrev R' : Block → Run
  R' = fold-Block Run Run (stmt_run eval) block_run

  inside_is : (b : Block) → R' b ≡ inside_run eval b
  inside_is b = fold_out-Block Run Run (stmt_run eval) block_run b

  pub run_let : (x : Name) (s : Source) → run_of eval (tree.Let x s) ≡ stmt_run eval (Stmt-F.Let x s)
  run_let x s = ap (run_of eval) (sym (tree.rolls-Let x s)) ∙ fold-roll-Stmt Run Run (stmt_run eval) block_run (Stmt-F.Let x s)

  pub run_assign : (x : Name) (is : List Index) (s : Source) → run_of eval (tree.Assign x is s) ≡ stmt_run eval (Stmt-F.Assign x is s)
  run_assign x is s = ap (run_of eval) (sym (tree.rolls-Assign x is s)) ∙ fold-roll-Stmt Run Run (stmt_run eval) block_run (Stmt-F.Assign x is s)

  pub run_call : (f : Name) (es : List Expr) → run_of eval (tree.Call f es) ≡ stmt_run eval (Stmt-F.Call f es)
  run_call f es = ap (run_of eval) (sym (tree.rolls-Call f es)) ∙ fold-roll-Stmt Run Run (stmt_run eval) block_run (Stmt-F.Call f es)

  pub run_if : (test : Expr) (first second : Block) →
      run_of eval (tree.If test first second) ≡ stmt_run eval (Stmt-F.If test (inside_run eval first) (inside_run eval second))
  run_if test first second =
      ap (run_of eval) (sym (tree.rolls-If test first second)) ∙ fold-roll-Stmt Run Run (stmt_run eval) block_run (Stmt-F.If test first second)
      ∙ ap (λ (p : Run). stmt_run eval (Stmt-F.If test p (R' second))) (inside_is first)
      ∙ ap (λ (p : Run). stmt_run eval (Stmt-F.If test (inside_run eval first) p)) (inside_is second)

  pub run_for : (x : Name) (w n : Numeral) (each : Block) → run_of eval (tree.For x w n each) ≡ stmt_run eval (Stmt-F.For x w n (inside_run eval each))
  run_for x w n each =
      ap (run_of eval) (sym (tree.rolls-For x w n each)) ∙ fold-roll-Stmt Run Run (stmt_run eval) block_run (Stmt-F.For x w n each)
      ∙ ap (λ (p : Run). stmt_run eval (Stmt-F.For x w n p)) (inside_is each)

abbrev pub Walk : Type 0
Walk = Scope → Walked

abbrev pub Inside : Type 0
Inside = Scope → TypeErrors

abbrev pub W' : Block → Inside
W' = fold-Block Walk Inside node_walked node_inside

inside_walked : (b : Block) → W' b ≡ block_errors b None
inside_walked b = fold_out-Block Walk Inside node_walked node_inside b

pub walked_let : (x : Name) (s : Source) → walked (tree.Let x s) ≡ node_walked (Stmt-F.Let x s)
walked_let x s = ap walked (sym (tree.rolls-Let x s)) ∙ fold-roll-Stmt Walk Inside node_walked node_inside (Stmt-F.Let x s)

pub walked_assign : (x : Name) (is : List Index) (s : Source) → walked (tree.Assign x is s) ≡ node_walked (Stmt-F.Assign x is s)
walked_assign x is s = ap walked (sym (tree.rolls-Assign x is s)) ∙ fold-roll-Stmt Walk Inside node_walked node_inside (Stmt-F.Assign x is s)

pub walked_call : (f : Name) (es : List Expr) → walked (tree.Call f es) ≡ node_walked (Stmt-F.Call f es)
walked_call f es = ap walked (sym (tree.rolls-Call f es)) ∙ fold-roll-Stmt Walk Inside node_walked node_inside (Stmt-F.Call f es)

pub walked_if : (test : Expr) (first second : Block) →
    walked (tree.If test first second) ≡ node_walked (Stmt-F.If test (block_errors first None) (block_errors second None))
walked_if test first second =
    ap walked (sym (tree.rolls-If test first second)) ∙ fold-roll-Stmt Walk Inside node_walked node_inside (Stmt-F.If test first second)
    ∙ ap (λ (p : Inside). node_walked (Stmt-F.If test p (W' second))) (inside_walked first)
    ∙ ap (λ (p : Inside). node_walked (Stmt-F.If test (block_errors first None) p)) (inside_walked second)

pub walked_for : (x : Name) (w n : Numeral) (each : Block) → walked (tree.For x w n each) ≡ node_walked (Stmt-F.For x w n (block_errors each None))
walked_for x w n each =
    ap walked (sym (tree.rolls-For x w n each)) ∙ fold-roll-Stmt Walk Inside node_walked node_inside (Stmt-F.For x w n each)
    ∙ ap (λ (p : Inside). node_walked (Stmt-F.For x w n p)) (inside_walked each)

abbrev Keep : Type 0
Keep = BlockKind → Bool

abbrev K' : Block → Keep
K' = fold-Block Keep Keep node_keeps node_all_keep

-- whether a block does what its kind may
abbrev pub block_keeps : Block → Keep
block_keeps b kind = keeps kind b

inside_keeps : (b : Block) → K' b ≡ block_keeps b
inside_keeps b = fold_out-Block Keep Keep node_keeps node_all_keep b

pub keeps_let : (x : Name) (s : Source) → stmt_keeps (tree.Let x s) ≡ node_keeps (Stmt-F.Let x s)
keeps_let x s = ap stmt_keeps (sym (tree.rolls-Let x s)) ∙ fold-roll-Stmt Keep Keep node_keeps node_all_keep (Stmt-F.Let x s)

pub keeps_assign : (x : Name) (is : List Index) (s : Source) → stmt_keeps (tree.Assign x is s) ≡ node_keeps (Stmt-F.Assign x is s)
keeps_assign x is s = ap stmt_keeps (sym (tree.rolls-Assign x is s)) ∙ fold-roll-Stmt Keep Keep node_keeps node_all_keep (Stmt-F.Assign x is s)

pub keeps_call : (f : Name) (es : List Expr) → stmt_keeps (tree.Call f es) ≡ node_keeps (Stmt-F.Call f es)
keeps_call f es = ap stmt_keeps (sym (tree.rolls-Call f es)) ∙ fold-roll-Stmt Keep Keep node_keeps node_all_keep (Stmt-F.Call f es)

pub keeps_if : (test : Expr) (first second : Block) →
    stmt_keeps (tree.If test first second) ≡ node_keeps (Stmt-F.If test (block_keeps first) (block_keeps second))
keeps_if test first second =
    ap stmt_keeps (sym (tree.rolls-If test first second)) ∙ fold-roll-Stmt Keep Keep node_keeps node_all_keep (Stmt-F.If test first second)
    ∙ ap (λ (p : Keep). node_keeps (Stmt-F.If test p (K' second))) (inside_keeps first)
    ∙ ap (λ (p : Keep). node_keeps (Stmt-F.If test (block_keeps first) p)) (inside_keeps second)

pub keeps_for : (x : Name) (w n : Numeral) (each : Block) → stmt_keeps (tree.For x w n each) ≡ node_keeps (Stmt-F.For x w n (block_keeps each))
keeps_for x w n each =
    ap stmt_keeps (sym (tree.rolls-For x w n each)) ∙ fold-roll-Stmt Keep Keep node_keeps node_all_keep (Stmt-F.For x w n each)
    ∙ ap (λ (p : Keep). node_keeps (Stmt-F.For x w n p)) (inside_keeps each)
