-- Which tokens a block is derived from, by the grammar, where K is plain, spec or impl
--   K      = "{" {stmtK} "}"
--   KR     = "{" {stmtK} "return" expr ";" "}"
--   stmtK  = "let" NAME "=" fromK ";"
--          | NAME {"[" expr "]"} "=" fromK ";"
--          | "if" expr K ["else" K]
--          | "for" NAME ":" NUM "below" NUM K
--          | "call" NAME "(" [expr {"," expr}] ")" ";"      (impl only)
--   fromK  = expr
--          | "choose"                                       (spec only)
--          | "call" NAME "(" [expr {"," expr}] ")"          (impl only)
use Rattle.std.specs.Prelude.{Bool, true, false, ◌==◌, ◌&&◌, if◌then◌else◌, List, [], ◌∷◌, map, Option, Some, None}
use Rattle.ygg_base.specs.declared.token.Keyword.{Keyword}
use Rattle.ygg_base.specs.declared.token.Keyword.TheVariants as word
use Rattle.ygg_base.specs.declared.token.Symbol.TheVariants as sign
use Rattle.ygg_base.specs.declared.token.Mark.TheVariants as mark
use Rattle.ygg_syntax.specs.declared.grammar.BlockKind.{BlockKind}
use Rattle.ygg_syntax.specs.declared.grammar.BlockKind.TheVariants.{Plain, Spec, Impl}
use Rattle.ygg_syntax.specs.declared.tree.Place.{Place}
use Rattle.ygg_syntax.specs.declared.tree.Index.{Index}
use Rattle.ygg_syntax.specs.declared.tree.Expr.{Expr}
use Rattle.ygg_syntax.specs.declared.tree.Source.{Source}
use Rattle.ygg_syntax.specs.declared.tree.Source.TheVariants as source
use Rattle.ygg_syntax.specs.declared.tree.Stmt.{Stmt}
use Rattle.ygg_syntax.specs.declared.tree.Block.{Block}
use Rattle.ygg_syntax.specs.declared.tree.Stmt.TheOpen.{Stmt-F, Block-F}
use Rattle.ygg_syntax.specs.declared.tree.Stmt.TheFolds.{fold-Stmt}
use Rattle.ygg_syntax.specs.Reading.{Reading, starts, takes, in_turn, impossible}
use Rattle.ygg_syntax.specs.Expressions.{keyword, symbol, named, numbered, phrase, expr, any}

-- arguments in their brackets
abbrev pub bracketed : List Expr → Reading
bracketed arguments = in_turn (symbol sign.RoundOpen ∷ any (map phrase arguments) ∷ symbol sign.RoundClose ∷ [])

-- a choice, which a specification may make
abbrev pub choice : BlockKind → Place → Reading
choice Plain at = impossible
choice Spec at = takes (mark.Keyword word.Choose) at
choice Impl at = impossible

-- a call, which an implementation may make
abbrev pub call_in : BlockKind → List Reading → Reading
call_in Plain parts = impossible
call_in Spec parts = impossible
call_in Impl parts = in_turn parts

-- a right side
abbrev pub source_in : BlockKind → Source → Reading
source_in kind (source.Value e) = expr e
source_in kind (source.Choose at) = choice kind at
source_in kind (source.Call at f arguments) = call_in kind (takes (mark.Keyword word.Call) at ∷ named f ∷ bracketed arguments ∷ [])

-- indices, one after another
abbrev pub indices_of : List Index → List Reading
indices_of [] = []
indices_of (i ∷ is) = takes (mark.Symbol sign.SquareOpen) i.bracket ∷ expr i.at ∷ symbol sign.SquareClose ∷ indices_of is

-- a block, with what its statements read in each kind of block
pub record BlockPhrase : Type 0 where
  pub place : Place
  pub statements : List (BlockKind → Reading)
  pub answer : Option Expr

-- what the statements of a block read in turn
abbrev pub statements_in : BlockKind → BlockPhrase → Reading
statements_in kind b = in_turn (map (λ (s : BlockKind → Reading). s kind) b.statements)

-- what a block without an answer reads
abbrev pub without_answer : BlockKind → BlockPhrase → Option Expr → Reading
without_answer kind b None = in_turn (takes (mark.Symbol sign.BraceOpen) b.place ∷ statements_in kind b ∷ symbol sign.BraceClose ∷ [])
without_answer kind b (Some e) = impossible

-- what a block with an answer reads
abbrev pub with_answer : BlockKind → BlockPhrase → Option Expr → Reading
with_answer kind b None = impossible
with_answer kind b (Some e) =
    in_turn (takes (mark.Symbol sign.BraceOpen) b.place ∷ statements_in kind b ∷ keyword word.Return ∷ expr e ∷ symbol sign.Semicolon
    ∷ symbol sign.BraceClose ∷ [])

-- a place of no token
abbrev pub is_nowhere : Place → Bool
is_nowhere at = at.line == 0 && at.column == 0

-- whether there are no statements and no answer
abbrev pub nothing_in : List (BlockKind → Reading) → Option Expr → Bool
nothing_in [] None = true
nothing_in [] (Some e) = false
nothing_in (s ∷ ss) answer = false

-- whether the block is what stands for one that isn't written
abbrev pub is_unwritten : BlockPhrase → Bool
is_unwritten b = is_nowhere b.place && nothing_in b.statements b.answer

-- a keyword and a block, or nothing where the keyword doesn't come
abbrev pub optional_block : Keyword → BlockKind → BlockPhrase → Reading
optional_block k kind b from =
    if starts (mark.Keyword k) from then in_turn (keyword k ∷ without_answer kind b b.answer ∷ []) from
    else if is_unwritten b then Some from else None

-- the rules of statements, with what the blocks inside read in their places
abbrev pub node_statement : Stmt-F (BlockKind → Reading) BlockPhrase → BlockKind → Reading
node_statement (Stmt-F.Let x s) kind = in_turn (keyword word.Let ∷ named x ∷ symbol sign.Assign ∷ source_in kind s ∷ symbol sign.Semicolon ∷ [])
node_statement (Stmt-F.Assign x indices s) kind = in_turn
    (named x ∷ in_turn (indices_of indices) ∷ symbol sign.Assign ∷ source_in kind s ∷ symbol sign.Semicolon ∷ [])
node_statement (Stmt-F.If test first second) kind =
    in_turn (keyword word.If ∷ expr test ∷ without_answer kind first first.answer ∷ optional_block word.Else kind second ∷ [])
node_statement (Stmt-F.For x w n each) kind =
    in_turn (keyword word.For ∷ named x ∷ symbol sign.Colon ∷ numbered w ∷ keyword word.Below ∷ numbered n ∷ without_answer kind each each.answer ∷ [])
node_statement (Stmt-F.Call f arguments) kind = call_in kind (keyword word.Call ∷ named f ∷ bracketed arguments ∷ symbol sign.Semicolon ∷ [])

-- a block inside another
abbrev pub node_block : Block-F (BlockKind → Reading) BlockPhrase → BlockPhrase
node_block b = record { place = b.place; statements = b.statements; answer = b.answer }

-- what a statement reads in each kind of block
abbrev pub statement : Stmt → BlockKind → Reading
statement = fold-Stmt (BlockKind → Reading) BlockPhrase node_statement node_block

-- what a block reads
abbrev pub block_phrase : Block → BlockPhrase
block_phrase b = record { place = b.place; statements = map statement b.statements; answer = b.answer }

-- the tokens of a block without an answer
abbrev pub block : BlockKind → Block → Reading
block kind b = without_answer kind (block_phrase b) b.answer

-- the tokens of a block with an answer
abbrev pub answering : BlockKind → Block → Reading
answering kind b = with_answer kind (block_phrase b) b.answer

-- the tokens of a block that may be left out, after its keyword
abbrev pub optional : Keyword → BlockKind → Block → Reading
optional k kind b = optional_block k kind (block_phrase b)
