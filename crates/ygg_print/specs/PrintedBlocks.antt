-- The marks of statements and blocks in their one canonical text.
use Rattle.std.specs.Prelude.{Bool, true, false, if◌then◌else◌, List, [], ◌∷◌, ◌++◌, map, Option, Some, None}
use Rattle.ygg_base.specs.declared.token.Keyword.TheVariants as word
use Rattle.ygg_base.specs.declared.token.Symbol.TheVariants as sign
use Rattle.ygg_base.specs.declared.token.Mark.{Mark}
use Rattle.ygg_base.specs.declared.token.Mark.TheVariants.{Name, Num, Keyword, Symbol}
use Rattle.ygg_syntax.specs.declared.tree.Name as tree
use Rattle.ygg_syntax.specs.declared.tree.Index.{Index}
use Rattle.ygg_syntax.specs.declared.tree.Expr.{Expr}
use Rattle.ygg_syntax.specs.declared.tree.Source.{Source}
use Rattle.ygg_syntax.specs.declared.tree.Source.TheVariants as source
use Rattle.ygg_syntax.specs.declared.tree.Stmt.{Stmt}
use Rattle.ygg_syntax.specs.declared.tree.Block.{Block}
use Rattle.ygg_syntax.specs.declared.tree.Stmt.TheOpen.{Stmt-F, Block-F}
use Rattle.ygg_syntax.specs.declared.tree.Stmt.TheFolds.{fold-Stmt}
use Rattle.ygg_print.specs.Printed.{printed, bracketed}

-- the marks of all, one after the other
abbrev pub all_printed : List (List Mark) → List Mark
all_printed [] = []
all_printed (s ∷ ss) = s ++ all_printed ss

-- the marks of the call of an operation
abbrev pub call_printed : tree.Name → List Expr → List Mark
call_printed f arguments = Keyword word.Call ∷ Name f.text ∷ bracketed (map printed arguments)

-- the marks of a right side
abbrev pub source_printed : Source → List Mark
source_printed (source.Value e) = printed e
source_printed (source.Choose at) = Keyword word.Choose ∷ []
source_printed (source.Call at f arguments) = call_printed f arguments

-- the marks of indices
abbrev pub indices_printed : List Index → List Mark
indices_printed [] = []
indices_printed (i ∷ is) = Symbol sign.SquareOpen ∷ (printed i.at ++ Symbol sign.SquareClose ∷ indices_printed is)

-- the marks of what a block returns
abbrev pub answer_printed : Option Expr → List Mark
answer_printed None = []
answer_printed (Some e) = Keyword word.Return ∷ (printed e ++ Symbol sign.Semicolon ∷ [])

-- whether nothing stands between the braces
abbrev pub is_empty : {A : Type 0} → List A → Option Expr → Bool
is_empty [] None = true
is_empty [] (Some e) = false
is_empty (s ∷ ss) answer = false

-- the marks of a block, and whether nothing stands between its braces
pub record BlockPrinted : Type 0 where
  pub marks : List Mark
  pub empty : Bool

-- the marks of a block inside another, where those of its statements stand in their places
abbrev pub node_block_printed : Block-F (List Mark) BlockPrinted → BlockPrinted
node_block_printed b = record {
  marks = Symbol sign.BraceOpen ∷ (all_printed b.statements ++ (answer_printed b.answer ++ Symbol sign.BraceClose ∷ []));
  empty = is_empty b.statements b.answer;
}

-- the marks of the second side of an `if`: an empty one is left out
abbrev pub else_printed : BlockPrinted → List Mark
else_printed b = if b.empty then [] else Keyword word.Else ∷ b.marks

-- the marks of a statement, where those of the blocks inside stand in their places
abbrev pub node_stmt_printed : Stmt-F (List Mark) BlockPrinted → List Mark
node_stmt_printed (Stmt-F.Let x s) = Keyword word.Let ∷ Name x.text ∷ Symbol sign.Assign ∷ (source_printed s ++ Symbol sign.Semicolon ∷ [])
node_stmt_printed (Stmt-F.Assign x indices s) = Name x.text ∷ (indices_printed indices ++ Symbol sign.Assign ∷ (source_printed s ++ Symbol sign.Semicolon ∷ []))
node_stmt_printed (Stmt-F.If test first second) = Keyword word.If ∷ (printed test ++ (first.marks ++ else_printed second))
node_stmt_printed (Stmt-F.For x w n each) =
    Keyword word.For ∷ Name x.text ∷ Symbol sign.Colon ∷ Num w.value ∷ Keyword word.Below ∷ Num n.value ∷ each.marks
node_stmt_printed (Stmt-F.Call f arguments) = call_printed f arguments ++ Symbol sign.Semicolon ∷ []

-- the marks of a statement
abbrev pub stmt_printed : Stmt → List Mark
stmt_printed = fold-Stmt (List Mark) BlockPrinted node_stmt_printed node_block_printed

-- the marks of a block, and whether nothing stands between its braces
abbrev pub block_printed : Block → BlockPrinted
block_printed b = node_block_printed (record { place = b.place; statements = map stmt_printed b.statements; answer = b.answer })
