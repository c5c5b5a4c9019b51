-- Statements and blocks inside others, laid open by one layer: what they do over terms, what typing says of them, and what they may.
use Rattle.std.proofs.Common.{◌≡◌, Bool, List, None, sym, ap, ◌∙◌}
use Rattle.ygg_syntax.specs.declared.grammar.BlockKind.{BlockKind}
use Rattle.ygg_syntax.specs.declared.tree.Def.{Def}
use Rattle.ygg_syntax.specs.declared.tree.Name.{Name}
use Rattle.ygg_syntax.specs.declared.tree.Numeral.{Numeral}
use Rattle.ygg_syntax.specs.declared.tree.Index.{Index}
use Rattle.ygg_syntax.specs.declared.tree.Expr.{Expr}
use Rattle.ygg_syntax.specs.declared.tree.Source.{Source}
use Rattle.ygg_syntax.specs.declared.tree.Stmt.{Stmt}
use Rattle.ygg_syntax.specs.declared.tree.Stmt.TheVariants as tree
use Rattle.ygg_syntax.specs.declared.tree.Stmt.TheOpen.{Stmt-F}
use Rattle.ygg_syntax.specs.declared.tree.Stmt.TheFolds.{fold-roll-Stmt}
use Rattle.ygg_syntax.specs.declared.tree.Block.{Block, fold-Block, fold_out-Block}
use Rattle.ygg_meaning_laws.specs.ygg_type_rules.TypeErrors.{TypeErrors}
use Rattle.ygg_meaning_laws.specs.ygg_type_rules.Scopes.{Scope}
use Rattle.ygg_meaning_laws.specs.ygg_type_rules.Statements.{Walked, node_walked, node_inside, walked, block_errors}
use Rattle.ygg_meaning_laws.specs.Kinds.{node_keeps, node_all_keep, stmt_keeps, keeps}
use Rattle.ygg_sym_runs.specs.ygg_rules.declared.rule.RuleKind.{RuleKind}
use Rattle.ygg_sym_runs.specs.Lower.{SymMeaning}
use Rattle.ygg_sym_runs.specs.Ready.{terms_of, stmt_run, inside_run}
use Rattle.ygg_sym_runs.specs.Runs.{SymRun, sym_stmt, sym_block}

module _ {S : Type 0} (M : SymMeaning S) (defs : List Def) (kinds : List RuleKind) where
  abbrev step : Stmt-F (SymRun S) (SymRun S) → SymRun S
  step = sym_stmt kinds (terms_of kinds defs) (M.machine kinds)

  abbrev R : Stmt → SymRun S
  R = stmt_run M defs kinds

  abbrev R' : Block → SymRun S
  R' = fold-Block (SymRun S) (SymRun S) (sym_stmt kinds (terms_of kinds defs) (M.machine kinds)) (sym_block kinds (terms_of kinds defs) (M.machine kinds))

  inside_is : (b : Block) → R' b ≡ inside_run M defs kinds b
  inside_is b =
      fold_out-Block (SymRun S) (SymRun S) (sym_stmt kinds (terms_of kinds defs) (M.machine kinds)) (sym_block kinds (terms_of kinds defs) (M.machine kinds)) b

  pub run_let : (x : Name) (s : Source) → R (tree.Let x s) ≡ step (Stmt-F.Let x s)
  run_let x s = ap R (sym (tree.rolls-Let x s)) ∙ fold-roll-Stmt (SymRun S) (SymRun S) (sym_stmt kinds (terms_of kinds defs) (M.machine kinds))
      (sym_block kinds (terms_of kinds defs) (M.machine kinds)) (Stmt-F.Let x s)

  pub run_assign : (x : Name) (is : List Index) (s : Source) → R (tree.Assign x is s) ≡ step (Stmt-F.Assign x is s)
  run_assign x is s = ap R (sym (tree.rolls-Assign x is s)) ∙ fold-roll-Stmt (SymRun S) (SymRun S) (sym_stmt kinds (terms_of kinds defs) (M.machine kinds))
      (sym_block kinds (terms_of kinds defs) (M.machine kinds)) (Stmt-F.Assign x is s)

  pub run_call : (f : Name) (es : List Expr) → R (tree.Call f es) ≡ step (Stmt-F.Call f es)
  run_call f es = ap R (sym (tree.rolls-Call f es)) ∙ fold-roll-Stmt (SymRun S) (SymRun S) (sym_stmt kinds (terms_of kinds defs) (M.machine kinds))
      (sym_block kinds (terms_of kinds defs) (M.machine kinds)) (Stmt-F.Call f es)

  pub run_if : (test : Expr) (first second : Block) →
      R (tree.If test first second) ≡ step (Stmt-F.If test (inside_run M defs kinds first) (inside_run M defs kinds second))
  run_if test first second =
      ap R (sym (tree.rolls-If test first second)) ∙ fold-roll-Stmt (SymRun S) (SymRun S) (sym_stmt kinds (terms_of kinds defs) (M.machine kinds))
      (sym_block kinds (terms_of kinds defs) (M.machine kinds)) (Stmt-F.If test first second)
      ∙ ap (λ (p : SymRun S). step (Stmt-F.If test p (R' second))) (inside_is first)
      ∙ ap (λ (p : SymRun S). step (Stmt-F.If test (inside_run M defs kinds first) p)) (inside_is second)

  pub run_for : (x : Name) (w n : Numeral) (each : Block) → R (tree.For x w n each) ≡ step (Stmt-F.For x w n (inside_run M defs kinds each))
  run_for x w n each =
      ap R (sym (tree.rolls-For x w n each)) ∙ fold-roll-Stmt (SymRun S) (SymRun S) (sym_stmt kinds (terms_of kinds defs) (M.machine kinds))
      (sym_block kinds (terms_of kinds defs) (M.machine kinds)) (Stmt-F.For x w n each)
      ∙ ap (λ (p : SymRun S). step (Stmt-F.For x w n p)) (inside_is each)

abbrev pub Walk : Type 0
Walk = Scope → Walked

abbrev pub Inside : Type 0
Inside = Scope → TypeErrors

abbrev pub W' : Block → Inside
W' = fold-Block Walk Inside node_walked node_inside

inside_walked : (b : Block) → W' b ≡ block_errors b None
inside_walked b = fold_out-Block Walk Inside node_walked node_inside b

pub walked_let : (x : Name) (s : Source) → walked (tree.Let x s) ≡ node_walked (Stmt-F.Let x s)
walked_let x s = ap walked (sym (tree.rolls-Let x s)) ∙ fold-roll-Stmt Walk Inside node_walked node_inside (Stmt-F.Let x s)

pub walked_assign : (x : Name) (is : List Index) (s : Source) → walked (tree.Assign x is s) ≡ node_walked (Stmt-F.Assign x is s)
walked_assign x is s = ap walked (sym (tree.rolls-Assign x is s)) ∙ fold-roll-Stmt Walk Inside node_walked node_inside (Stmt-F.Assign x is s)

pub walked_call : (f : Name) (es : List Expr) → walked (tree.Call f es) ≡ node_walked (Stmt-F.Call f es)
walked_call f es = ap walked (sym (tree.rolls-Call f es)) ∙ fold-roll-Stmt Walk Inside node_walked node_inside (Stmt-F.Call f es)

pub walked_if : (test : Expr) (first second : Block) →
    walked (tree.If test first second) ≡ node_walked (Stmt-F.If test (block_errors first None) (block_errors second None))
walked_if test first second =
    ap walked (sym (tree.rolls-If test first second)) ∙ fold-roll-Stmt Walk Inside node_walked node_inside (Stmt-F.If test first second)
    ∙ ap (λ (p : Inside). node_walked (Stmt-F.If test p (W' second))) (inside_walked first)
    ∙ ap (λ (p : Inside). node_walked (Stmt-F.If test (block_errors first None) p)) (inside_walked second)

pub walked_for : (x : Name) (w n : Numeral) (each : Block) → walked (tree.For x w n each) ≡ node_walked (Stmt-F.For x w n (block_errors each None))
walked_for x w n each =
    ap walked (sym (tree.rolls-For x w n each)) ∙ fold-roll-Stmt Walk Inside node_walked node_inside (Stmt-F.For x w n each)
    ∙ ap (λ (p : Inside). node_walked (Stmt-F.For x w n p)) (inside_walked each)

abbrev Keep : Type 0
Keep = BlockKind → Bool

abbrev K' : Block → Keep
K' = fold-Block Keep Keep node_keeps node_all_keep

-- whether a block does what its kind may
abbrev pub block_keeps : Block → Keep
block_keeps b kind = keeps kind b

inside_keeps : (b : Block) → K' b ≡ block_keeps b
inside_keeps b = fold_out-Block Keep Keep node_keeps node_all_keep b

pub keeps_let : (x : Name) (s : Source) → stmt_keeps (tree.Let x s) ≡ node_keeps (Stmt-F.Let x s)
keeps_let x s = ap stmt_keeps (sym (tree.rolls-Let x s)) ∙ fold-roll-Stmt Keep Keep node_keeps node_all_keep (Stmt-F.Let x s)

pub keeps_assign : (x : Name) (is : List Index) (s : Source) → stmt_keeps (tree.Assign x is s) ≡ node_keeps (Stmt-F.Assign x is s)
keeps_assign x is s = ap stmt_keeps (sym (tree.rolls-Assign x is s)) ∙ fold-roll-Stmt Keep Keep node_keeps node_all_keep (Stmt-F.Assign x is s)

pub keeps_call : (f : Name) (es : List Expr) → stmt_keeps (tree.Call f es) ≡ node_keeps (Stmt-F.Call f es)
keeps_call f es = ap stmt_keeps (sym (tree.rolls-Call f es)) ∙ fold-roll-Stmt Keep Keep node_keeps node_all_keep (Stmt-F.Call f es)

pub keeps_if : (test : Expr) (first second : Block) →
    stmt_keeps (tree.If test first second) ≡ node_keeps (Stmt-F.If test (block_keeps first) (block_keeps second))
keeps_if test first second =
    ap stmt_keeps (sym (tree.rolls-If test first second)) ∙ fold-roll-Stmt Keep Keep node_keeps node_all_keep (Stmt-F.If test first second)
    ∙ ap (λ (p : Keep). node_keeps (Stmt-F.If test p (K' second))) (inside_keeps first)
    ∙ ap (λ (p : Keep). node_keeps (Stmt-F.If test (block_keeps first) p)) (inside_keeps second)

pub keeps_for : (x : Name) (w n : Numeral) (each : Block) → stmt_keeps (tree.For x w n each) ≡ node_keeps (Stmt-F.For x w n (block_keeps each))
keeps_for x w n each =
    ap stmt_keeps (sym (tree.rolls-For x w n each)) ∙ fold-roll-Stmt Keep Keep node_keeps node_all_keep (Stmt-F.For x w n each)
    ∙ ap (λ (p : Keep). node_keeps (Stmt-F.For x w n p)) (inside_keeps each)
