-- What statements and blocks read after their first token.
use Rattle.std.proofs.Common.{◌≡◌, Bool, true, false, cond, List, [], ◌∷◌, ◌++◌, Option, Some, None, refl, sym, ap, ◌∙◌}
use Rattle.ygg_base.specs.declared.token.Keyword.{Keyword}
use Rattle.ygg_base.specs.declared.token.Keyword.TheVariants as word
use Rattle.ygg_base.specs.declared.token.Symbol.TheVariants as sign
use Rattle.ygg_base.specs.declared.token.Mark.{Mark}
use Rattle.ygg_base.specs.declared.token.Mark.TheVariants as mark
use Rattle.ygg_base.specs.declared.token.Token.{Token}
use Rattle.ygg_syntax.specs.declared.grammar.BlockKind.{BlockKind}
use Rattle.ygg_syntax.specs.declared.grammar.BlockKind.TheVariants as purpose
use Rattle.ygg_syntax.specs.declared.tree.Place.{Place}
use Rattle.ygg_syntax.specs.declared.tree.Name.{Name}
use Rattle.ygg_syntax.specs.declared.tree.Numeral.{Numeral}
use Rattle.ygg_syntax.specs.declared.tree.Index.{Index}
use Rattle.ygg_syntax.specs.declared.tree.Expr.{Expr}
use Rattle.ygg_syntax.specs.declared.tree.Source.{Source}
use Rattle.ygg_syntax.specs.declared.tree.Stmt.{Stmt}
use Rattle.ygg_syntax.specs.declared.tree.Stmt.TheVariants as tree
use Rattle.ygg_syntax.specs.declared.tree.Stmt.TheOpen.{Stmt-F}
use Rattle.ygg_syntax.specs.declared.tree.Stmt.TheFolds.{fold-roll-Stmt}
use Rattle.ygg_syntax.specs.declared.tree.Block.{Block, fold-Block, fold_out-Block}
use Rattle.ygg_syntax.specs.Reading.{Reading, token, starts, takes, passes, in_turn}
use Rattle.ygg_syntax.specs.Expressions.{expr, keyword, symbol, named, numbered}
use Rattle.ygg_syntax.specs.Blocks.{
  BlockPhrase,
  node_statement,
  node_block,
  statement,
  block_phrase,
  is_unwritten,
  block,
  optional,
  source_in,
  indices_of,
  bracketed,
}
use Rattle.ygg_read.specs.ExpressionSteps.{Reads}
use Rattle.ygg_read.proofs.ExpressionPhrases.{same, joined, reads_token, reads_mark}
use Rattle.ygg_read.specs.Steps.{statements_of}

-- a statement that begins with a mark
after_mark : (s : Stmt) (kind : BlockKind) (m : Mark) (at : Place) (parts : List Reading) (rest : List Token) → statement s kind ≡ in_turn (passes m ∷ parts)
    → (qs : List Reading) → in_turn (statement s kind ∷ qs) (token m at ∷ rest) ≡ in_turn (parts ++ qs) rest
after_mark s kind m at parts rest is qs =
    ap (λ (r : Reading). in_turn (r ∷ qs) (token m at ∷ rest)) is ∙ joined (passes m ∷ parts) qs (token m at ∷ rest)
    ∙ reads_mark m at (token m at ∷ rest) rest refl (parts ++ qs)

is_let : (x : Name) (s : Source) → statement (tree.Let x s) ≡ node_statement (Stmt-F.Let x s)
is_let x s = ap statement (sym (tree.rolls-Let x s)) ∙ fold-roll-Stmt (BlockKind → Reading) BlockPhrase node_statement node_block (Stmt-F.Let x s)

pub reads_let : (x : Name) (s : Source) (kind : BlockKind) (at : Place) (rest : List Token) (qs : List Reading)
    → in_turn (statement (tree.Let x s) kind ∷ qs) (token (mark.Keyword word.Let) at ∷ rest) ≡ in_turn
    (named x ∷ symbol sign.Assign ∷ source_in kind s ∷ symbol sign.Semicolon ∷ qs) rest
reads_let x s kind at rest qs =
    after_mark (tree.Let x s) kind (mark.Keyword word.Let) at (named x ∷ symbol sign.Assign ∷ source_in kind s ∷ symbol sign.Semicolon ∷ []) rest
    (ap (λ (r : BlockKind → Reading). r kind) (is_let x s)) qs

is_assign : (x : Name) (is : List Index) (s : Source) → statement (tree.Assign x is s) ≡ node_statement (Stmt-F.Assign x is s)
is_assign x is s = ap statement (sym (tree.rolls-Assign x is s))
    ∙ fold-roll-Stmt (BlockKind → Reading) BlockPhrase node_statement node_block (Stmt-F.Assign x is s)

pub reads_assign : (x : Name) (is : List Index) (s : Source) (kind : BlockKind) (rest : List Token) (qs : List Reading)
    → in_turn (statement (tree.Assign x is s) kind ∷ qs) (token (mark.Name x.text) x.place ∷ rest) ≡ in_turn
    (indices_of is ++ (symbol sign.Assign ∷ source_in kind s ∷ symbol sign.Semicolon ∷ qs)) rest
reads_assign x is s kind rest qs =
    ap (λ (r : BlockKind → Reading). in_turn (r kind ∷ qs) (token (mark.Name x.text) x.place ∷ rest)) (is_assign x is s)
    ∙ joined (named x ∷ in_turn (indices_of is) ∷ symbol sign.Assign ∷ source_in kind s ∷ symbol sign.Semicolon ∷ []) qs
    (token (mark.Name x.text) x.place ∷ rest)
    ∙ reads_token (mark.Name x.text) x.place (token (mark.Name x.text) x.place ∷ rest) rest refl
    (in_turn (indices_of is) ∷ symbol sign.Assign ∷ source_in kind s ∷ symbol sign.Semicolon ∷ qs)
    ∙ joined (indices_of is) (symbol sign.Assign ∷ source_in kind s ∷ symbol sign.Semicolon ∷ qs) rest

-- what a block inside a statement reads
abbrev inside : Block → BlockPhrase
inside = fold-Block (BlockKind → Reading) BlockPhrase node_statement node_block

is_block : (b : Block) → inside b ≡ block_phrase b
is_block b = fold_out-Block (BlockKind → Reading) BlockPhrase node_statement node_block b

is_if : (test : Expr) (first second : Block) → statement (tree.If test first second) ≡ node_statement
    (Stmt-F.If test (block_phrase first) (block_phrase second))
is_if test first second = ap statement (sym (tree.rolls-If test first second))
    ∙ fold-roll-Stmt (BlockKind → Reading) BlockPhrase node_statement node_block (Stmt-F.If test first second)
    ∙ ap (λ (p : BlockPhrase). node_statement (Stmt-F.If test p (inside second))) (is_block first)
    ∙ ap (λ (p : BlockPhrase). node_statement (Stmt-F.If test (block_phrase first) p)) (is_block second)

pub reads_if : (test : Expr) (first second : Block) (kind : BlockKind) (at : Place) (rest : List Token) (qs : List Reading)
    → in_turn (statement (tree.If test first second) kind ∷ qs) (token (mark.Keyword word.If) at ∷ rest) ≡ in_turn
    (expr test ∷ block kind first ∷ optional word.Else kind second ∷ qs) rest
reads_if test first second kind at rest qs =
    after_mark (tree.If test first second) kind (mark.Keyword word.If) at (expr test ∷ block kind first ∷ optional word.Else kind second ∷ []) rest
    (ap (λ (r : BlockKind → Reading). r kind) (is_if test first second)) qs

is_for : (x : Name) (w n : Numeral) (each : Block) → statement (tree.For x w n each) ≡ node_statement (Stmt-F.For x w n (block_phrase each))
is_for x w n each = ap statement (sym (tree.rolls-For x w n each))
    ∙ fold-roll-Stmt (BlockKind → Reading) BlockPhrase node_statement node_block (Stmt-F.For x w n each)
    ∙ ap (λ (p : BlockPhrase). node_statement (Stmt-F.For x w n p)) (is_block each)

pub reads_for : (x : Name) (w n : Numeral) (each : Block) (kind : BlockKind) (at : Place) (rest : List Token) (qs : List Reading)
    → in_turn (statement (tree.For x w n each) kind ∷ qs) (token (mark.Keyword word.For) at ∷ rest)
    ≡ in_turn (named x ∷ symbol sign.Colon ∷ numbered w ∷ keyword word.Below ∷ numbered n ∷ block kind each ∷ qs) rest
reads_for x w n each kind at rest qs =
    after_mark (tree.For x w n each) kind (mark.Keyword word.For) at
    (named x ∷ symbol sign.Colon ∷ numbered w ∷ keyword word.Below ∷ numbered n ∷ block kind each ∷ []) rest
    (ap (λ (r : BlockKind → Reading). r kind) (is_for x w n each)) qs

is_call : (f : Name) (arguments : List Expr) → statement (tree.Call f arguments) ≡ node_statement (Stmt-F.Call f arguments)
is_call f arguments = ap statement (sym (tree.rolls-Call f arguments))
    ∙ fold-roll-Stmt (BlockKind → Reading) BlockPhrase node_statement node_block (Stmt-F.Call f arguments)

pub reads_call : (f : Name) (arguments : List Expr) (at : Place) (rest : List Token) (qs : List Reading)
    → in_turn (statement (tree.Call f arguments) purpose.Impl ∷ qs) (token (mark.Keyword word.Call) at ∷ rest) ≡ in_turn
    (named f ∷ bracketed arguments ∷ symbol sign.Semicolon ∷ qs) rest
reads_call f arguments at rest qs =
    after_mark (tree.Call f arguments) purpose.Impl (mark.Keyword word.Call) at (named f ∷ bracketed arguments ∷ symbol sign.Semicolon ∷ []) rest
    (ap (λ (r : BlockKind → Reading). r purpose.Impl) (is_call f arguments)) qs

-- a block without an answer
pub reads_block : (kind : BlockKind) (at : Place) (ss : List Stmt) (from s t now : List Token) → from ≡ token (mark.Symbol sign.BraceOpen) at ∷ s →
    Reads (statements_of kind ss) s t → Reads (symbol sign.BraceClose ∷ []) t now
    → Reads (in_turn (takes (mark.Symbol sign.BraceOpen) at ∷ in_turn (statements_of kind ss) ∷ symbol sign.BraceClose ∷ []) ∷ []) from now
reads_block kind at ss from s t now e statements close = λ qs.
    joined (takes (mark.Symbol sign.BraceOpen) at ∷ in_turn (statements_of kind ss) ∷ symbol sign.BraceClose ∷ []) qs from
    ∙ reads_token (mark.Symbol sign.BraceOpen) at from s e (in_turn (statements_of kind ss) ∷ symbol sign.BraceClose ∷ qs)
    ∙ joined (statements_of kind ss) (symbol sign.BraceClose ∷ qs) s ∙ statements (symbol sign.BraceClose ∷ qs) ∙ close qs

-- a block with an answer
pub reads_answering : (kind : BlockKind) (at : Place) (ss : List Stmt) (e : Expr) (from s t now : List Token) →
    from ≡ token (mark.Symbol sign.BraceOpen) at ∷ s → Reads (statements_of kind ss) s t
    → Reads (keyword word.Return ∷ expr e ∷ symbol sign.Semicolon ∷ symbol sign.BraceClose ∷ []) t now
    → Reads (in_turn (takes (mark.Symbol sign.BraceOpen) at ∷ in_turn (statements_of kind ss) ∷ keyword word.Return ∷ expr e ∷ symbol sign.Semicolon
    ∷ symbol sign.BraceClose ∷ []) ∷ []) from now
reads_answering kind at ss e from s t now is statements answer = λ qs.
    joined (takes (mark.Symbol sign.BraceOpen) at ∷ in_turn (statements_of kind ss) ∷ keyword word.Return ∷ expr e ∷ symbol sign.Semicolon
    ∷ symbol sign.BraceClose ∷ []) qs from
    ∙ reads_token (mark.Symbol sign.BraceOpen) at from s is
    (in_turn (statements_of kind ss) ∷ keyword word.Return ∷ expr e ∷ symbol sign.Semicolon ∷ symbol sign.BraceClose ∷ qs)
    ∙ joined (statements_of kind ss) (keyword word.Return ∷ expr e ∷ symbol sign.Semicolon ∷ symbol sign.BraceClose ∷ qs) s
    ∙ statements (keyword word.Return ∷ expr e ∷ symbol sign.Semicolon ∷ symbol sign.BraceClose ∷ qs) ∙ answer qs

written : (k : Keyword) (kind : BlockKind) (b : Block) (at : Place) (rest : List Token)
    → optional k kind b (token (mark.Keyword k) at ∷ rest) ≡ in_turn (keyword k ∷ block kind b ∷ []) (token (mark.Keyword k) at ∷ rest)
written k kind b at rest = ap (λ (c : Bool). cond c (in_turn (keyword k ∷ block kind b ∷ []) (token (mark.Keyword k) at ∷ rest))
    (cond (is_unwritten (block_phrase b)) (Some (token (mark.Keyword k) at ∷ rest)) None)) (same (mark.Keyword k))

-- a block after its keyword
pub reads_written : (k : Keyword) (kind : BlockKind) (b : Block) (at : Place) (from rest now : List Token) → from ≡ token (mark.Keyword k) at ∷ rest →
    Reads (block kind b ∷ []) rest now
    → Reads (optional k kind b ∷ []) from now
unfolding in_turn
reads_written k kind b at from rest now e reads = λ qs.
    ap (in_turn (optional k kind b ∷ qs)) e
    ∙ ap (λ (o : Option (List Token)). elim o as (λ o. Option (List Token)) [ None ↦ None | Some left ↦ in_turn qs left ]) (written k kind b at rest)
    ∙ joined (keyword k ∷ block kind b ∷ []) qs (token (mark.Keyword k) at ∷ rest)
    ∙ reads_mark (mark.Keyword k) at (token (mark.Keyword k) at ∷ rest) rest refl (block kind b ∷ qs)
    ∙ reads qs

not_written : (k : Keyword) (kind : BlockKind) (b : Block) (from : List Token) → starts (mark.Keyword k) from ≡ false →
    is_unwritten (block_phrase b) ≡ true → optional k kind b from ≡ Some from
not_written k kind b from h is = rw (h, is) refl

-- a block that isn't written
pub reads_unwritten : (k : Keyword) (kind : BlockKind) (b : Block) (from : List Token) → starts (mark.Keyword k) from ≡ false →
    is_unwritten (block_phrase b) ≡ true
    → (qs : List Reading) → in_turn (optional k kind b ∷ qs) from ≡ in_turn qs from
unfolding in_turn
reads_unwritten k kind b from h is qs = ap (λ (o : Option (List Token)). elim o as (λ o. Option (List Token))
    [ None ↦ None | Some left ↦ in_turn qs left ]) (not_written k kind b from h is)
