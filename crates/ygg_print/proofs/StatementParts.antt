-- The marks of a statement are those of its parts, one behind the other.
use Rattle.std.proofs.Common.{◌≡◌, List, [], ◌∷◌, ◌++◌, sym, ap, ◌∙◌}
use Rattle.ygg_base.specs.declared.token.Keyword.TheVariants as word
use Rattle.ygg_base.specs.declared.token.Symbol.TheVariants as sign
use Rattle.ygg_base.specs.declared.token.Mark.{Mark}
use Rattle.ygg_base.specs.declared.token.Mark.TheVariants as mark
use Rattle.ygg_syntax.specs.declared.tree.Name.{Name}
use Rattle.ygg_syntax.specs.declared.tree.Expr.{Expr}
use Rattle.ygg_syntax.specs.declared.tree.Index.{Index}
use Rattle.ygg_syntax.specs.declared.tree.Source.{Source}
use Rattle.ygg_syntax.specs.declared.tree.Block.{Block, fold-Block}
use Rattle.ygg_syntax.specs.declared.tree.Stmt.{Stmt, roll-Stmt, map-Stmt}
use Rattle.ygg_syntax.specs.declared.tree.Stmt.TheVariants as stmt
use Rattle.ygg_syntax.specs.declared.tree.Stmt.TheOpen.{Stmt-F}
use Rattle.ygg_syntax.specs.declared.tree.Stmt.TheFolds.{fold-roll-Stmt}
use Rattle.ygg_print.specs.PrintedBlocks.{
  BlockPrinted,
  node_block_printed,
  node_stmt_printed,
  stmt_printed,
  source_printed,
  indices_printed,
  call_printed,
}

module _ {t : Stmt} where
  -- those of a statement that is opened
  opened : (x : Stmt-F Stmt Block) → t ≡ roll-Stmt x
      → node_stmt_printed (map-Stmt Stmt Block (List Mark) BlockPrinted stmt_printed
      (fold-Block (List Mark) BlockPrinted node_stmt_printed node_block_printed) x) ≡ stmt_printed t
  opened x is = sym (ap stmt_printed is ∙ fold-roll-Stmt (List Mark) BlockPrinted node_stmt_printed node_block_printed x)

  pub bound : (x : Name) (s : Source) → t ≡ stmt.Let x s
      → mark.Keyword word.Let ∷ mark.Name x.text ∷ mark.Symbol sign.Assign ∷ (source_printed s ++ mark.Symbol sign.Semicolon ∷ []) ≡ stmt_printed t
  bound x s is = opened (Stmt-F.Let x s) (is ∙ sym (stmt.rolls-Let x s))

  pub assigned : (x : Name) (places ps : List Index) (s : Source) → t ≡ stmt.Assign x places s → ps ≡ places
      → mark.Name x.text ∷ (indices_printed ps ++ mark.Symbol sign.Assign ∷ (source_printed s ++ mark.Symbol sign.Semicolon ∷ [])) ≡ stmt_printed t
  assigned x places ps s is same = rw same (opened (Stmt-F.Assign x places s) (is ∙ sym (stmt.rolls-Assign x places s)))

  pub called : (f : Name) (es ds : List Expr) → t ≡ stmt.Call f es → ds ≡ es
      → call_printed f ds ++ mark.Symbol sign.Semicolon ∷ [] ≡ stmt_printed t
  called f es ds is same = rw same (opened (Stmt-F.Call f es) (is ∙ sym (stmt.rolls-Call f es)))
