-- A parser of files that holds what is made of each part: it reads a token at a time, places included. No statement cites it.
use Rattle.std.proofs.Common.{ℕ, true, false, List, [], ◌∷◌, Option, Some, None}
use Rattle.ygg_base.specs.declared.token.Keyword.{Keyword}
use Rattle.ygg_base.specs.declared.token.Keyword.TheVariants as word
use Rattle.ygg_base.specs.declared.token.Symbol.{Symbol}
use Rattle.ygg_base.specs.declared.token.Symbol.TheVariants as sign
use Rattle.ygg_base.specs.declared.token.Mark.{Mark}
use Rattle.ygg_base.specs.declared.token.Mark.TheVariants as mark
use Rattle.ygg_base.specs.declared.token.Token.{Token}
use Rattle.ygg_value.specs.declared.operation.Op.{Op}
use Rattle.ygg_syntax.specs.declared.grammar.BlockKind.{BlockKind}
use Rattle.ygg_syntax.specs.declared.grammar.BlockKind.TheVariants.{Plain, Spec, Impl}
use Rattle.ygg_syntax.specs.declared.grammar.Sort.{Sort}
use Rattle.ygg_syntax.specs.declared.grammar.Sort.TheVariants as sorts
use Rattle.ygg_syntax.specs.declared.tree.Place.{Place}
use Rattle.ygg_syntax.specs.declared.tree.Name.{Name}
use Rattle.ygg_syntax.specs.declared.tree.Numeral.{Numeral}
use Rattle.ygg_syntax.specs.declared.tree.TypeText.{TypeText}
use Rattle.ygg_syntax.specs.declared.tree.TypeText.TheVariants as shape
use Rattle.ygg_syntax.specs.declared.tree.Declared.{Declared}
use Rattle.ygg_syntax.specs.declared.tree.Quantifier.{Quantifier}
use Rattle.ygg_syntax.specs.declared.tree.Quantifier.TheVariants as quantifier
use Rattle.ygg_syntax.specs.declared.tree.Expr.{Expr, roll-Expr}
use Rattle.ygg_syntax.specs.declared.tree.Expr.TheOpen.{Expr-F}
use Rattle.ygg_syntax.specs.declared.tree.Source.{Source}
use Rattle.ygg_syntax.specs.declared.tree.Source.TheVariants as source
use Rattle.ygg_syntax.specs.declared.tree.Index.{Index}
use Rattle.ygg_syntax.specs.declared.tree.Stmt.{Stmt, roll-Stmt}
use Rattle.ygg_syntax.specs.declared.tree.Block.{Block}
use Rattle.ygg_syntax.specs.declared.tree.Stmt.TheOpen.{Stmt-F}
use Rattle.ygg_base.specs.declared.geometry.DiskKind.{DiskKind}
use Rattle.ygg_base.specs.declared.geometry.DiskKind.TheVariants as disk
use Rattle.ygg_syntax.specs.declared.tree.DiskText.{DiskText}
use Rattle.ygg_syntax.specs.declared.tree.Def.{Def}
use Rattle.ygg_syntax.specs.declared.tree.Operation.{Operation}
use Rattle.ygg_syntax.specs.declared.tree.Tick.{Tick}
use Rattle.ygg_syntax.specs.declared.tree.Layer.{Layer}
use Rattle.ygg_syntax.specs.declared.tree.File.{File}
use Rattle.ygg_syntax.specs.Reading.{same_mark}
use Rattle.ygg_syntax.specs.Pending.{operation_of}

-- what may be repeated
pub data Loop : Type 0 where
  -- "[" expr "]"
  indices : Loop
  -- "," expr
  expressions : Loop
  -- "," NAME ":" type
  declarations : Sort → Loop
  -- NAME ":" type ";" after this keyword
  variables : Keyword → Loop
  -- expr ";" after this keyword
  claims : Keyword → Loop
  operations : Loop
  ticks : Loop
  definitions : Loop
  layers : Loop

-- what is made of each
abbrev pub element : Loop → Type 0
element indices = Index
element expressions = Expr
element (declarations sort) = Declared
element (variables k) = Declared
element (claims k) = Expr
element operations = Operation
element ticks = Tick
element definitions = Def
element layers = Layer

-- what is to be read, and how reading goes on with what is made of it
pub data Parser : Type 0 where
  answer : File → Parser
  refused : Parser
  exactly : Mark → (Place → Parser) → Parser
  name : (Name → Parser) → Parser
  number : (Numeral → Parser) → Parser
  operator : (Op → Place → Parser) → Parser
  -- where this token comes it is read, and else the token is another's
  perhaps : Mark → (Place → Parser) → Parser → Parser
  expression : (Expr → Parser) → Parser
  loop : (l : Loop) → (List (element l) → Parser) → Parser
  statements : BlockKind → (List Stmt → Parser) → Parser
  -- rules: each reads as its parser below
  arguments : (List Expr → Parser) → Parser
  right_side : BlockKind → (Source → Parser) → Parser
  block : BlockKind → (Block → Parser) → Parser
  answering : BlockKind → (Block → Parser) → Parser
  some_type : Sort → (TypeText → Parser) → Parser
  declared_list : Sort → (List Declared → Parser) → Parser
  on_crash : (Option Block → Parser) → Parser

-- a word of the language
abbrev pub keyword : Keyword → Parser → Parser
keyword k p = exactly (mark.Keyword k) (λ at. p)

-- a sign of the language
abbrev pub symbol : Symbol → Parser → Parser
symbol s p = exactly (mark.Symbol s) (λ at. p)

-- the block that stands for one that isn't written
abbrev pub unwritten : Block
unwritten = record { place = record { line = 0; column = 0 }; statements = []; answer = None }

-- an atom with indices after it
abbrev pub with_indices : Expr → List Index → Expr
with_indices e [] = e
with_indices e (i ∷ is) = with_indices (roll-Expr (Expr-F.At e i.bracket i.at)) is

-- {"[" expr "]"} after an atom
abbrev pub indexed : (Expr → Parser) → Expr-F Expr → Parser
indexed k e = loop indices (λ is. k (with_indices (roll-Expr e) is))

-- expr {"," expr} ")"
abbrev pub some_arguments : (List Expr → Parser) → Parser
some_arguments k = expression (λ e. loop expressions (λ es. symbol sign.RoundClose (k (e ∷ es))))

-- [expr {"," expr}] ")"
abbrev pub arguments_rule : (List Expr → Parser) → Parser
arguments_rule k = perhaps (mark.Symbol sign.RoundClose) (λ at. k []) (some_arguments k)

-- what follows `all` or `any`
abbrev pub quantified : Place → Quantifier → (Expr → Parser) → Parser
quantified first q k =
    symbol sign.RoundOpen (name (λ x. symbol sign.Colon
    (number (λ w. keyword word.Below (number (λ n. symbol sign.Comma (expression (λ e. symbol sign.RoundClose (
    indexed k (Expr-F.Quantified first q x w n e))))))))))

-- what follows the first token of an expression
abbrev pub after_first : Mark → Place → (Expr → Parser) → Option Parser
after_first (mark.Num v) at k = Some (symbol sign.Colon (number (λ w. indexed k (Expr-F.Constant (record { value = v; place = at }) w))))
after_first (mark.Name text) at k =
    let x : Name = record { text = text; place = at } in
    Some (perhaps (mark.Symbol sign.RoundOpen) (λ at. arguments (λ es. indexed k (Expr-F.Apply x es))) (indexed k (Expr-F.Variable x)))
after_first (mark.Symbol sign.RoundOpen) first k =
    Some (expression (λ a. operator (λ op at. expression (λ b. symbol sign.RoundClose (indexed k (Expr-F.Binary first a op at b))))))
after_first (mark.Symbol sign.Tilde) at k = Some (expression (λ e. k (roll-Expr (Expr-F.Not at e))))
after_first (mark.Keyword word.Low) at k = Some (symbol sign.Dot (name (λ x. indexed k (Expr-F.Low at x))))
after_first (mark.Keyword word.Pick) at k =
    Some (symbol sign.RoundOpen (expression (λ c. symbol sign.Comma
    (expression (λ a. symbol sign.Comma (expression (λ b. symbol sign.RoundClose (indexed k (Expr-F.Pick at c a b)))))))))
after_first (mark.Keyword word.Resize) at k =
    Some (symbol sign.RoundOpen (expression (λ a. symbol sign.Comma (number (λ w. symbol sign.RoundClose (indexed k (Expr-F.Resize at a w)))))))
after_first (mark.Keyword word.Fill) at k =
    Some (symbol sign.RoundOpen (number (λ m. symbol sign.Comma (expression (λ a. symbol sign.RoundClose (indexed k (Expr-F.Fill at m a)))))))
after_first (mark.Keyword word.Row) at k = Some (symbol sign.RoundOpen (some_arguments (λ es. indexed k (Expr-F.Row at es))))
after_first (mark.Keyword word.All) at k = Some (quantified at quantifier.All k)
after_first (mark.Keyword word.Any) at k = Some (quantified at quantifier.Any k)
after_first _ at k = None

-- fromK
abbrev pub right_side_rule : BlockKind → (Source → Parser) → Parser
right_side_rule Plain k = expression (λ e. k (source.Value e))
right_side_rule Spec k = perhaps (mark.Keyword word.Choose) (λ at. k (source.Choose at)) (expression (λ e. k (source.Value e)))
right_side_rule Impl k =
    perhaps (mark.Keyword word.Call) (λ at. name (λ f. symbol sign.RoundOpen (arguments (λ es. k (source.Call at f es)))))
    (expression (λ e. k (source.Value e)))

-- a keyword and a block, or neither
abbrev pub optional : Keyword → BlockKind → (Block → Parser) → Parser
optional w kind k = perhaps (mark.Keyword w) (λ at. block kind k) (k unwritten)

-- a table, where one may stand
abbrev pub table : Sort → (TypeText → Parser) → Parser
table sorts.Small k = refused
table sorts.All k = keyword word.Table (number (λ n. keyword word.Of (number (λ m. keyword word.Of (number (λ w. k (shape.Table n m w)))))))

-- type, or small
abbrev pub type_rule : Sort → (TypeText → Parser) → Parser
type_rule sort k =
    perhaps (mark.Keyword word.Word) (λ at. number (λ w. k (shape.Word w)))
    (perhaps (mark.Keyword word.Row) (λ at. number (λ m. keyword word.Of (number (λ w. k (shape.Row m w))))) (table sort k))

-- NAME ":" type
abbrev pub declared : Sort → (Declared → Parser) → Parser
declared sort k = name (λ x. symbol sign.Colon (some_type sort (λ t. k (record { name = x; shape = t }))))

-- [NAME ":" type {"," NAME ":" type}] ")"
abbrev pub declared_list_rule : Sort → (List Declared → Parser) → Parser
declared_list_rule sort k =
    perhaps (mark.Symbol sign.RoundClose) (λ at. k []) (declared sort (λ d. loop (declarations sort) (λ ds. symbol sign.RoundClose (k (d ∷ ds)))))

-- one statement, by its first token
abbrev pub statement : BlockKind → Mark → Place → (Stmt → Parser) → Option Parser
statement kind (mark.Keyword word.Let) at k = Some
    (name (λ x. symbol sign.Assign (right_side kind (λ s. symbol sign.Semicolon (k (roll-Stmt (Stmt-F.Let x s)))))))
statement kind (mark.Name text) at k =
    Some (loop indices (λ is. symbol sign.Assign (right_side kind
    (λ s. symbol sign.Semicolon (k (roll-Stmt (Stmt-F.Assign (record { text = text; place = at }) is s)))))))
statement kind (mark.Keyword word.If) at k = Some (expression (λ e. block kind (λ a. optional word.Else kind (λ b. k (roll-Stmt (Stmt-F.If e a b))))))
statement kind (mark.Keyword word.For) at k =
    Some (name (λ x. symbol sign.Colon (number (λ w. keyword word.Below (number (λ n. block kind (λ b. k (roll-Stmt (Stmt-F.For x w n b)))))))))
statement Impl (mark.Keyword word.Call) at k = Some
    (name (λ f. symbol sign.RoundOpen (arguments (λ es. symbol sign.Semicolon (k (roll-Stmt (Stmt-F.Call f es)))))))
statement kind m at k = None

-- def
abbrev pub definition : (Def → Parser) → Parser
definition k =
    name (λ x. symbol sign.RoundOpen (declared_list sorts.All
    (λ ds. symbol sign.Arrow (some_type sorts.All (λ t. symbol sign.Assign (expression (λ e. symbol sign.Semicolon (
    k (record { name = x; parameters = ds; shape = t; body = e })))))))))

-- ["on" "crash" spec]
abbrev pub on_crash_rule : (Option Block → Parser) → Parser
on_crash_rule k = perhaps (mark.Keyword word.On) (λ at. keyword word.Crash (block Spec (λ b. k (Some b)))) (k None)

-- what follows the arguments of an operation
abbrev pub operation_blocks : (Option TypeText → Block → Option Block → Block → Parser) → Parser
operation_blocks k =
    perhaps (mark.Keyword word.Spec) (λ at. block Spec (λ s. on_crash (λ c. keyword word.Impl (block Impl (λ i. k None s c i)))))
    (symbol sign.Arrow (some_type sorts.Small (λ t. keyword word.Spec
    (answering Spec (λ s. on_crash (λ c. keyword word.Impl (answering Impl (λ i. k (Some t) s c i))))))))

-- op
abbrev pub operation : (Operation → Parser) → Parser
operation k =
    name (λ x. symbol sign.RoundOpen (declared_list sorts.Small (λ ds. operation_blocks (λ t s c i.
    k (record { name = x; arguments = ds; answer = t; spec = s; on_crash = c; implementation = i })))))

-- ["crash" spec]
abbrev pub crash_block : (Place → Block → Parser) → Parser
crash_block k = perhaps (mark.Keyword word.Crash) (λ at. block Spec (k at)) (k (record { line = 0; column = 0 }) unwritten)

-- layer
abbrev pub layer : Place → (Layer → Parser) → Parser
layer at k =
    name (λ x. symbol sign.BraceOpen (
    loop (variables word.State) (λ state. optional word.Start Plain (λ start.
    loop (variables word.Memory) (λ memory. optional word.Format Impl (λ format.
    loop operations (λ ops. crash_block (λ place crash. loop ticks (λ steps. optional word.Recover Impl (λ recover.
    keyword word.Relate (expression (λ relate. symbol sign.Semicolon (
    loop (claims word.Always) (λ always. loop (claims word.Settled) (λ settled. loop (claims word.Maybe) (λ maybe. symbol sign.BraceClose (
    k (record {
      place = at;
      name = x;
      state = state;
      start = start;
      memory = memory;
      format = format;
      operations = ops;
      crash_place = place;
      crash = crash;
      ticks = steps;
      recover = recover;
      relate = relate;
      always = always;
      settled = settled;
      maybe = maybe;
    }))))))))))))))))))

-- NUM "of" NUM "of" NUM ";"
abbrev pub sizes : DiskKind → (DiskText → Parser) → Parser
sizes kind k =
    number (λ rows. keyword word.Of (number (λ words. keyword word.Of (number (λ width. symbol sign.Semicolon (
    k (record { kind = kind; rows = rows; words = words; width = width })))))))

-- disk
abbrev pub disk_text : (DiskText → Parser) → Parser
disk_text k = keyword word.Disk (perhaps (mark.Keyword word.Sync) (λ at. sizes disk.Sync k) (keyword word.Async (sizes disk.Async k)))

-- file
abbrev pub file : Parser
file =
    keyword word.Yggdrasil (exactly (mark.Num 1) (λ at. symbol sign.Semicolon (disk_text (λ d. loop definitions (λ ds. loop layers (λ ls.
    answer (record { disk = d; defs = ds; layers = ls })))))))

-- the token that each of what is repeated begins with
abbrev pub beginning : Loop → Mark
beginning indices = mark.Symbol sign.SquareOpen
beginning expressions = mark.Symbol sign.Comma
beginning (declarations sort) = mark.Symbol sign.Comma
beginning (variables k) = mark.Keyword k
beginning (claims k) = mark.Keyword k
beginning operations = mark.Keyword word.Op
beginning ticks = mark.Keyword word.Tick
beginning definitions = mark.Keyword word.Def
beginning layers = mark.Keyword word.Layer

-- what follows it
abbrev pub rest_of : (l : Loop) → Place → (element l → Parser) → Parser
rest_of indices at k = expression (λ e. symbol sign.SquareClose (k (record { bracket = at; at = e })))
rest_of expressions at k = expression k
rest_of (declarations sort) at k = declared sort k
rest_of (variables w) at k = declared sorts.All (λ d. symbol sign.Semicolon (k d))
rest_of (claims w) at k = expression (λ e. symbol sign.Semicolon (k e))
rest_of operations at k = operation k
rest_of ticks at k = name (λ x. block Impl (λ b. k (record { name = x; body = b })))
rest_of definitions at k = definition k
rest_of layers at k = layer at k

-- the place of a token
abbrev pub place_of : Token → Place
place_of t = record { line = t.line; column = t.column }

abbrev pub named : Mark → (List ℕ → Parser) → Option Parser
named (mark.Name text) k = Some (k text)
named _ k = None

abbrev pub numbered : Mark → (ℕ → Parser) → Option Parser
numbered (mark.Num n) k = Some (k n)
numbered _ k = None

abbrev pub operated : Mark → (Op → Parser) → Option Parser
operated (mark.Symbol s) k = elim (operation_of s) [ Some op ↦ Some (k op) | None ↦ None ]
operated _ k = None

-- this token, or else another
abbrev pub whether : Mark → Token → Option Parser → Option Parser → Option Parser
whether m t p q = elim (same_mark m t.mark) as (λ b. Option Parser) [ true ↦ p | false ↦ q ]

abbrev pub source_step : BlockKind → (Source → Parser) → Token → Option Parser
source_step Plain k t = after_first t.mark (place_of t) (λ e. k (source.Value e))
source_step Spec k t = whether (mark.Keyword word.Choose) t (Some (k (source.Choose (place_of t)))) (after_first t.mark (place_of t) (λ e. k (source.Value e)))
source_step Impl k t =
    whether (mark.Keyword word.Call) t (Some (name (λ f. symbol sign.RoundOpen (arguments (λ es. k (source.Call (place_of t) f es))))))
    (after_first t.mark (place_of t) (λ e. k (source.Value e)))

abbrev pub table_step : Sort → (TypeText → Parser) → Token → Option Parser
table_step sorts.Small k t = None
table_step sorts.All k t =
    whether (mark.Keyword word.Table) t (Some (number (λ n. keyword word.Of (number (λ m. keyword word.Of (number (λ w. k (shape.Table n m w)))))))) None

-- what is left to be read after one token
abbrev pub step : Parser → Token → Option Parser
step (answer f) t = None
step refused t = None
step (exactly m k) t = whether m t (Some (k (place_of t))) None
step (name k) t = named t.mark (λ text. k (record { text = text; place = place_of t }))
step (number k) t = numbered t.mark (λ n. k (record { value = n; place = place_of t }))
step (operator k) t = operated t.mark (λ op. k op (place_of t))
step (perhaps m k p) t = whether m t (Some (k (place_of t))) (step p t)
step (expression k) t = after_first t.mark (place_of t) k
step (loop l k) t = whether (beginning l) t (Some (rest_of l (place_of t) (λ x. loop l (λ xs. k (x ∷ xs))))) (step (k []) t)
step (statements kind k) t = elim (statement kind t.mark (place_of t) (λ s. statements kind (λ ss. k (s ∷ ss)))) as (λ o. Option Parser)
    [ Some p ↦ Some p | None ↦ step (k []) t ]
step (arguments k) t =
    whether (mark.Symbol sign.RoundClose) t (Some (k [])) (after_first t.mark (place_of t) (λ e. loop expressions (λ es. symbol sign.RoundClose (k (e ∷ es)))))
step (right_side kind k) t = source_step kind k t
step (block kind k) t =
    let at = place_of t in
    whether (mark.Symbol sign.BraceOpen) t (Some (statements kind
    (λ ss. symbol sign.BraceClose (k (record { place = at; statements = ss; answer = None }))))) None
step (answering kind k) t =
    let at = place_of t in
    whether (mark.Symbol sign.BraceOpen) t
    (Some (statements kind (λ ss. keyword word.Return (expression
    (λ e. symbol sign.Semicolon (symbol sign.BraceClose (k (record { place = at; statements = ss; answer = Some e })))))))) None
step (some_type sort k) t =
    whether (mark.Keyword word.Word) t (Some (number (λ w. k (shape.Word w))))
    (whether (mark.Keyword word.Row) t (Some (number (λ m. keyword word.Of (number (λ w. k (shape.Row m w)))))) (table_step sort k t))
step (declared_list sort k) t =
    whether (mark.Symbol sign.RoundClose) t (Some (k [])) (named t.mark (λ text. symbol sign.Colon (some_type sort (λ s.
    loop (declarations sort) (λ ds. symbol sign.RoundClose (k (record { name = record { text = text; place = place_of t }; shape = s } ∷ ds)))))))
step (on_crash k) t = whether (mark.Keyword word.On) t (Some (keyword word.Crash (block Spec (λ b. k (Some b))))) (step (k None) t)

-- the file where the text ends
abbrev pub finish : Parser → Option File
finish (answer f) = Some f
finish refused = None
finish (exactly m k) = None
finish (name k) = None
finish (number k) = None
finish (operator k) = None
finish (perhaps m k p) = finish p
finish (expression k) = None
finish (loop l k) = finish (k [])
finish (statements kind k) = finish (k [])
finish (arguments k) = None
finish (right_side kind k) = None
finish (block kind k) = None
finish (answering kind k) = None
finish (some_type sort k) = None
finish (declared_list sort k) = None
finish (on_crash k) = finish (k None)

-- the file that is read from the tokens
unfoldable pub run : Parser → List Token → Option File
run p [] = finish p
run p (t ∷ ts) = elim (step p t) [ None ↦ None | Some q ↦ run q ts ]
