-- The printed marks hang on no places.
use Rattle.std.proofs.Common.{◌≡◌, List, [], ◌∷◌, ◌++◌, map, if◌then◌else◌, Option, Some, None, option_map, refl, sym, ap, ◌∙◌, subst}
use Rattle.ygg_base.specs.declared.token.Keyword.{Keyword}
use Rattle.ygg_base.specs.declared.token.Keyword.TheVariants as word
use Rattle.ygg_base.specs.declared.token.Symbol.TheVariants as sign
use Rattle.ygg_base.specs.declared.token.Mark.{Mark}
use Rattle.ygg_base.specs.declared.token.Mark.TheVariants as mark
use Rattle.ygg_syntax.specs.declared.tree.Index.{Index}
use Rattle.ygg_syntax.specs.declared.tree.TypeText.{TypeText}
use Rattle.ygg_syntax.specs.declared.tree.TypeText.TheVariants as shape
use Rattle.ygg_syntax.specs.declared.tree.Declared.{Declared}
use Rattle.ygg_syntax.specs.declared.tree.Expr.{Expr, roll-Expr, map-Expr}
use Rattle.ygg_syntax.specs.declared.tree.Expr.TheOpen.{Expr-F}
use Rattle.ygg_syntax.specs.declared.tree.Expr.TheFolds.{ind-Expr, fold-roll-Expr}
use Rattle.ygg_syntax.specs.declared.tree.Source.{Source}
use Rattle.ygg_syntax.specs.declared.tree.Source.TheVariants as source
use Rattle.ygg_syntax.specs.declared.tree.Stmt.{Stmt, roll-Stmt, map-Stmt}
use Rattle.ygg_syntax.specs.declared.tree.Block.{Block, roll-Block, map-Block, fold-Block}
use Rattle.ygg_syntax.specs.declared.tree.Stmt.TheOpen.{Stmt-F, Block-F}
use Rattle.ygg_syntax.specs.declared.tree.Stmt.TheFolds.{ind-Stmt, fold-roll-Stmt, fold-roll-Block}
use Rattle.ygg_syntax.specs.declared.tree.Def.{Def}
use Rattle.ygg_syntax.specs.declared.tree.Operation.{Operation}
use Rattle.ygg_syntax.specs.declared.tree.Tick.{Tick}
use Rattle.ygg_syntax.specs.declared.tree.Layer.{Layer}
use Rattle.ygg_syntax.specs.declared.tree.File.{File}
use Rattle.ygg_print.specs.Printed.{printed, node_printed, list_printed, bracketed}
use Rattle.ygg_print.specs.PrintedBlocks.{
  all_printed,
  source_printed,
  indices_printed,
  answer_printed,
  is_empty,
  else_printed,
  BlockPrinted,
  node_block_printed,
  node_stmt_printed,
  stmt_printed,
  block_printed,
}
use Rattle.ygg_print.specs.PrintedFiles.{
  type_printed,
  declared_printed,
  definition_printed,
  variable_printed,
  claim_printed,
  optional_printed,
  on_crash_printed,
  answer_type_printed,
  operation_printed,
  tick_printed,
  layer_printed,
  file_printed,
  head_printed,
}
use Rattle.ygg_syntax.specs.Bare.{
  nowhere,
  bare,
  node_bare,
  bare_source,
  bare_index,
  node_bare_statement,
  node_bare_block,
  bare_statement,
  bare_block,
  bare_type,
  bare_declared,
  bare_def,
  bare_operation,
  bare_tick,
  bare_layer,
  bare_file,
}

-- one after another
all_same : {A B : Type 0} (f : A → A) (ms : A → B) → ((a : A) → ms (f a) ≡ ms a) → (xs : List A) → map ms (map f xs) ≡ map ms xs
all_same f ms each [] = refl
all_same f ms each (a ∷ xs) = λ i. each a i ∷ all_same f ms each xs i

-- expressions with what is shown of them
abbrev Shown : Type 0
Shown = (e : Expr) × (printed (bare e) ≡ printed e)

abbrev tree_in : Shown → Expr
tree_in s = s.0

shown_same : (es : List Shown) → map printed (map bare (map tree_in es)) ≡ map printed (map tree_in es)
shown_same [] = refl
shown_same (e ∷ es) = λ i. e.1 i ∷ shown_same es i

abbrev printed_bare : Expr-F Expr → List Mark
printed_bare y = node_printed (map-Expr Expr (List Mark) printed (node_bare (map-Expr Expr Expr bare y)))

node : (y : Expr-F Shown) → printed_bare (map-Expr Shown Expr tree_in y) ≡ node_printed (map-Expr Expr (List Mark) printed (map-Expr Shown Expr tree_in y))
node (Expr-F.Constant v w) = refl
node (Expr-F.Low first x) = refl
node (Expr-F.Variable x) = refl
node (Expr-F.Apply f es) = λ i. node_printed (Expr-F.Apply f (shown_same es i))
node (Expr-F.Binary first a op at b) = λ i. node_printed (Expr-F.Binary first (a.1 i) op at (b.1 i))
node (Expr-F.Not first a) = λ i. node_printed (Expr-F.Not first (a.1 i))
node (Expr-F.At a bracket j) = λ i. node_printed (Expr-F.At (a.1 i) bracket (j.1 i))
node (Expr-F.Pick first c a b) = λ i. node_printed (Expr-F.Pick first (c.1 i) (a.1 i) (b.1 i))
node (Expr-F.Resize first a w) = λ i. node_printed (Expr-F.Resize first (a.1 i) w)
node (Expr-F.Fill first m a) = λ i. node_printed (Expr-F.Fill first m (a.1 i))
node (Expr-F.Row first es) = λ i. node_printed (Expr-F.Row first (shown_same es i))
node (Expr-F.Quantified first q x w n e) = λ i. node_printed (Expr-F.Quantified first q x w n (e.1 i))

expression_same : (e : Expr) → printed (bare e) ≡ printed e
expression_same = ind-Expr (λ e. printed (bare e) ≡ printed e)
    (λ x y is.
    ap printed (fold-roll-Expr Expr (λ y. roll-Expr (node_bare y)) x) ∙ fold-roll-Expr (List Mark) node_printed (node_bare (map-Expr Expr Expr bare x))
    ∙ subst (λ z. printed_bare z ≡ node_printed (map-Expr Expr (List Mark) printed z)) is (node y) ∙ sym (fold-roll-Expr (List Mark) node_printed x))

expressions_same : (es : List Expr) → map printed (map bare es) ≡ map printed es
expressions_same = all_same bare printed expression_same

answer_same : (a : Option Expr) → answer_printed (option_map bare a) ≡ answer_printed a
answer_same None = refl
answer_same (Some e) = λ i. answer_of (expression_same e i)
  where
    answer_of : List Mark → List Mark
    answer_of ms = mark.Keyword word.Return ∷ (ms ++ mark.Symbol sign.Semicolon ∷ [])

source_same : (s : Source) → source_printed (bare_source s) ≡ source_printed s
source_same (source.Value e) = expression_same e
source_same (source.Choose at) = refl
source_same (source.Call at f es) = λ i. mark.Keyword word.Call ∷ mark.Name f.text ∷ bracketed (expressions_same es i)

indices_same : (is : List Index) → indices_printed (map bare_index is) ≡ indices_printed is
indices_same [] = refl
indices_same (j ∷ js) = λ i. mark.Symbol sign.SquareOpen ∷ (expression_same j.at i ++ mark.Symbol sign.SquareClose ∷ indices_same js i)

-- statements and blocks with what is shown of them
abbrev bare_in : Block → Block
bare_in = fold-Block Stmt Block (λ s. roll-Stmt (node_bare_statement s)) node_bare_block

abbrev printed_in : Block → BlockPrinted
printed_in = fold-Block (List Mark) BlockPrinted node_stmt_printed node_block_printed

abbrev S : Type 0
S = (t : Stmt) × (stmt_printed (bare_statement t) ≡ stmt_printed t)

abbrev B : Type 0
B = (b : Block) × (printed_in (bare_in b) ≡ printed_in b)

abbrev stmt_in : S → Stmt
stmt_in s = s.0

abbrev block_in : B → Block
block_in b = b.0

abbrev mapped : Stmt-F S B → Stmt-F Stmt Block
mapped y = map-Stmt S B Stmt Block stmt_in block_in y

abbrev mapped_block : Block-F S B → Block-F Stmt Block
mapped_block y = map-Block S B Stmt Block stmt_in block_in y

abbrev stmt_bare : Stmt-F Stmt Block → List Mark
stmt_bare y = node_stmt_printed (map-Stmt Stmt Block (List Mark) BlockPrinted stmt_printed printed_in
    (node_bare_statement (map-Stmt Stmt Block Stmt Block bare_statement bare_in y)))

stmt_case : (y : Stmt-F S B) → stmt_bare (mapped y) ≡ node_stmt_printed (map-Stmt Stmt Block (List Mark) BlockPrinted stmt_printed printed_in (mapped y))
stmt_case (Stmt-F.Let x v) = λ i. mark.Keyword word.Let ∷ mark.Name x.text ∷ mark.Symbol sign.Assign ∷ (source_same v i ++ mark.Symbol sign.Semicolon ∷ [])
stmt_case (Stmt-F.Assign x is v) = λ i. mark.Name x.text ∷ (indices_same is i ++ mark.Symbol sign.Assign ∷ (source_same v i ++ mark.Symbol sign.Semicolon ∷ []))
stmt_case (Stmt-F.If test a b) = λ i. mark.Keyword word.If ∷ (expression_same test i ++ ((a.1 i).marks ++ else_printed (b.1 i)))
stmt_case (Stmt-F.For x w n each) =
    λ i. mark.Keyword word.For ∷ mark.Name x.text ∷ mark.Symbol sign.Colon ∷ mark.Num w.value ∷ mark.Keyword word.Below ∷ mark.Num n.value ∷ (each.1 i).marks
stmt_case (Stmt-F.Call f es) = λ i. mark.Keyword word.Call ∷ mark.Name f.text ∷ (bracketed (expressions_same es i) ++ mark.Symbol sign.Semicolon ∷ [])

shown_all : (ts : List S) → map stmt_printed (map bare_statement (map stmt_in ts)) ≡ map stmt_printed (map stmt_in ts)
shown_all [] = refl
shown_all (t ∷ ts) = λ i. t.1 i ∷ shown_all ts i

abbrev printed_block : List (List Mark) → Option Expr → BlockPrinted
printed_block ms answer = node_block_printed (record { place = nowhere; statements = ms; answer = answer })

braces_same : (ts : List Stmt) (answer : Option Expr) → map stmt_printed (map bare_statement ts) ≡ map stmt_printed ts
    → printed_block (map stmt_printed (map bare_statement ts)) (option_map bare answer) ≡ printed_block (map stmt_printed ts) answer
braces_same ts answer e = λ i. record {
  marks = mark.Symbol sign.BraceOpen ∷ (all_printed (e i) ++ (answer_same answer i ++ mark.Symbol sign.BraceClose ∷ []));
  empty = empty ts answer i;
}
  where
    empty : (ts : List Stmt) (answer : Option Expr) → is_empty (map stmt_printed (map bare_statement ts)) (option_map bare answer) ≡ is_empty
        (map stmt_printed ts) answer
    empty [] None = refl
    empty [] (Some e) = refl
    empty (t ∷ ts) answer = refl

block_bare : (x : Block-F Stmt Block) → map stmt_printed (map bare_statement x.statements) ≡ map stmt_printed x.statements →
    printed_in (bare_in (roll-Block x)) ≡ printed_in (roll-Block x)
block_bare x e =
    ap printed_in (fold-roll-Block Stmt Block (λ s. roll-Stmt (node_bare_statement s)) node_bare_block x)
    ∙ fold-roll-Block (List Mark) BlockPrinted node_stmt_printed node_block_printed
    (record { place = nowhere; statements = map bare_statement x.statements; answer = option_map bare x.answer })
    ∙ braces_same x.statements x.answer e ∙ sym (fold-roll-Block (List Mark) BlockPrinted node_stmt_printed node_block_printed x)

statement_same : (t : Stmt) → stmt_printed (bare_statement t) ≡ stmt_printed t
statement_same =
    ind-Stmt (λ t. stmt_printed (bare_statement t) ≡ stmt_printed t) (λ b. printed_in (bare_in b) ≡ printed_in b)
    (λ x y is.
    ap stmt_printed (fold-roll-Stmt Stmt Block (λ s. roll-Stmt (node_bare_statement s)) node_bare_block x)
    ∙ fold-roll-Stmt (List Mark) BlockPrinted node_stmt_printed node_block_printed
    (node_bare_statement (map-Stmt Stmt Block Stmt Block bare_statement bare_in x))
    ∙ subst (λ z. stmt_bare z ≡ node_stmt_printed (map-Stmt Stmt Block (List Mark) BlockPrinted stmt_printed printed_in z)) is (stmt_case y)
    ∙ sym (fold-roll-Stmt (List Mark) BlockPrinted node_stmt_printed node_block_printed x))
    (λ x y is. block_bare x (subst (λ (z : Block-F Stmt Block). map stmt_printed (map bare_statement z.statements) ≡ map stmt_printed z.statements) is
    (shown_all y.statements)))

block_same : (b : Block) → block_printed (bare_block b) ≡ block_printed b
block_same b = braces_same b.statements b.answer (all_same bare_statement stmt_printed statement_same b.statements)

type_same : (t : TypeText) → type_printed (bare_type t) ≡ type_printed t
type_same (shape.Word w) = refl
type_same (shape.Row m w) = refl
type_same (shape.Table n m w) = refl

declared_same : (d : Declared) → declared_printed (bare_declared d) ≡ declared_printed d
declared_same d = λ i. mark.Name d.name.text ∷ mark.Symbol sign.Colon ∷ type_same d.shape i

list_same : (ds : List Declared) → map declared_printed (map bare_declared ds) ≡ map declared_printed ds
list_same = all_same bare_declared declared_printed declared_same

definition_same : (d : Def) → definition_printed (bare_def d) ≡ definition_printed d
definition_same d = λ i.
    (mark.Keyword word.Def ∷ mark.Name d.name.text ∷ mark.Symbol sign.RoundOpen ∷
    (list_printed (list_same d.parameters i) ++ mark.Symbol sign.RoundClose ∷ mark.Symbol sign.Arrow ∷ type_same d.shape i))
    ++ mark.Symbol sign.Assign ∷ (expression_same d.body i ++ mark.Symbol sign.Semicolon ∷ [])

variable_same : (k : Keyword) (d : Declared) → variable_printed k (bare_declared d) ≡ variable_printed k d
variable_same k d = λ i. mark.Keyword k ∷ (declared_same d i ++ mark.Symbol sign.Semicolon ∷ [])

claim_same : (k : Keyword) (e : Expr) → claim_printed k (bare e) ≡ claim_printed k e
claim_same k e = λ i. mark.Keyword k ∷ (expression_same e i ++ mark.Symbol sign.Semicolon ∷ [])

optional_same : (k : Keyword) (b : Block) → optional_printed k (bare_block b) ≡ optional_printed k b
optional_same k b = λ i. if (block_same b i).empty then [] else mark.Keyword k ∷ (block_same b i).marks

on_crash_same : (c : Option Block) → on_crash_printed (option_map bare_block c) ≡ on_crash_printed c
on_crash_same None = refl
on_crash_same (Some b) = λ i. mark.Keyword word.On ∷ mark.Keyword word.Crash ∷ (block_same b i).marks

answer_type_same : (t : Option TypeText) → answer_type_printed (option_map bare_type t) ≡ answer_type_printed t
answer_type_same None = refl
answer_type_same (Some t) = λ i. mark.Symbol sign.Arrow ∷ type_same t i

operation_same : (o : Operation) → operation_printed (bare_operation o) ≡ operation_printed o
operation_same o = λ i.
    (mark.Keyword word.Op ∷ mark.Name o.name.text ∷ mark.Symbol sign.RoundOpen ∷
    (list_printed (list_same o.arguments i) ++ mark.Symbol sign.RoundClose ∷ answer_type_same o.answer i))
    ++ mark.Keyword word.Spec ∷ ((block_same o.spec i).marks ++ (on_crash_same o.on_crash i ++ mark.Keyword word.Impl ∷ (block_same o.implementation i).marks))

tick_same : (t : Tick) → tick_printed (bare_tick t) ≡ tick_printed t
tick_same t = λ i. mark.Keyword word.Tick ∷ mark.Name t.name.text ∷ (block_same t.body i).marks

layer_same : (l : Layer) → layer_printed (bare_layer l) ≡ layer_printed l
layer_same l = λ i.
    mark.Keyword word.Layer ∷ mark.Name l.name.text ∷ mark.Symbol sign.BraceOpen
    ∷ ((all_printed (all_same bare_declared (variable_printed word.State) (variable_same word.State) l.state i) ++ (optional_same word.Start l.start i
    ++ (all_printed (all_same bare_declared (variable_printed word.Memory) (variable_same word.Memory) l.memory i) ++ optional_same word.Format l.format i)))
    ++ ((all_printed (all_same bare_operation operation_printed operation_same l.operations i) ++ (optional_same word.Crash l.crash i
    ++ (all_printed (all_same bare_tick tick_printed tick_same l.ticks i) ++ optional_same word.Recover l.recover i)))
    ++ ((claim_same word.Relate l.relate i ++ (all_printed (all_same bare (claim_printed word.Always) (claim_same word.Always) l.always i)
    ++ (all_printed (all_same bare (claim_printed word.Settled) (claim_same word.Settled) l.settled i)
    ++ all_printed (all_same bare (claim_printed word.Maybe) (claim_same word.Maybe) l.maybe i))))
    ++ mark.Symbol sign.BraceClose ∷ [])))

-- the printed marks of a file are those of the file without its places
bare_printed : (f : File) → file_printed (bare_file f) ≡ file_printed f
bare_printed f = λ i.
    head_printed f.disk ++ (all_printed (all_same bare_def definition_printed definition_same f.defs i)
    ++ all_printed (all_same bare_layer layer_printed layer_same f.layers i))

-- files that are the same but for places have the same printed marks
pub same_printed : (f g : File) → bare_file f ≡ bare_file g → file_printed f ≡ file_printed g
same_printed f g e = sym (bare_printed f) ∙ ap file_printed e ∙ bare_printed g
