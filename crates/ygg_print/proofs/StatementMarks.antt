-- The parser makes statements and blocks of what derives them.
use Rattle.std.proofs.Common.{
  ◌≡◌,
  ℕ,
  ◌==◌,
  Bool,
  true,
  false,
  ◌&&◌,
  if◌then◌else◌,
  List,
  [],
  ◌∷◌,
  ◌++◌,
  map,
  Option,
  Some,
  None,
  refl,
  sym,
  ap,
  ◌∙◌,
  subst,
  arith,
}
use Rattle.std.proofs.lemmas.Bool.Decides.{nat_tests}
use Rattle.ygg_base.specs.declared.token.Keyword.{Keyword}
use Rattle.ygg_base.specs.declared.token.Keyword.TheVariants as word
use Rattle.ygg_base.specs.declared.token.Symbol.TheVariants as sign
use Rattle.ygg_base.specs.declared.token.Mark.{Mark}
use Rattle.ygg_base.specs.declared.token.Mark.TheVariants as mark
use Rattle.ygg_base.specs.declared.token.Token.{Token}
use Rattle.ygg_syntax.specs.declared.grammar.BlockKind.{BlockKind}
use Rattle.ygg_syntax.specs.declared.grammar.BlockKind.TheVariants.{Plain, Spec, Impl}
use Rattle.ygg_syntax.specs.declared.tree.Place.{Place}
use Rattle.ygg_syntax.specs.declared.tree.Name.{Name}
use Rattle.ygg_syntax.specs.declared.tree.Index.{Index}
use Rattle.ygg_syntax.specs.declared.tree.Expr.{Expr}
use Rattle.ygg_syntax.specs.declared.tree.Source.{Source}
use Rattle.ygg_syntax.specs.declared.tree.Source.TheVariants as source
use Rattle.ygg_syntax.specs.declared.tree.Stmt.{Stmt, roll-Stmt, map-Stmt}
use Rattle.ygg_syntax.specs.declared.tree.Block.{Block, roll-Block, map-Block, fold-Block}
use Rattle.ygg_syntax.specs.declared.tree.Stmt.TheOpen.{Stmt-F, Block-F}
use Rattle.ygg_syntax.specs.declared.tree.Stmt.TheFolds.{ind-Stmt, fold-roll-Stmt, fold-roll-Block}
use Rattle.ygg_syntax.specs.Reading.{Reading, token, starts, passes, takes, in_turn, impossible}
use Rattle.ygg_syntax.specs.Expressions.{phrase, expr, named, numbered}
use Rattle.ygg_syntax.specs.Expressions as phrases
use Rattle.ygg_syntax.specs.Blocks as blocks
use Rattle.ygg_syntax.specs.Blocks.{
  BlockPhrase,
  bracketed,
  source_in,
  indices_of,
  statements_in,
  without_answer,
  with_answer,
  is_nowhere,
  nothing_in,
  is_unwritten,
  optional_block,
  node_statement,
  node_block,
  block_phrase,
}
use Rattle.ygg_read.proofs.Marks.{passed, took}
use Rattle.ygg_read.proofs.TakenWhole.{split, empty, all_claims}
use Rattle.ygg_print.proofs.Parser.{
  Parser,
  perhaps,
  expression,
  loop,
  indices,
  statements,
  name,
  arguments,
  symbol,
  keyword,
  right_side,
  right_side_rule,
  unwritten,
  block,
  answering,
  optional,
  statement,
  place_of,
  step,
  run,
}
use Rattle.ygg_print.proofs.Runs.{
  alike,
  does,
  taken,
  left,
  absent,
  more,
  ended,
  Reads,
  is_one_of,
  Opens,
  opens_pass,
  opens_take,
  done,
  pass,
  next_name,
  next_number,
  flat,
  never,
  given,
  given_at,
  Skips,
}
use Rattle.ygg_print.proofs.ExpressionMarks.{part_of, arguments_made, made, all_made}

-- an expression and what follows it
pub part : (e : Expr) {rs : List Reading} {firsts : List Mark} {k : Expr → Parser} {q : Parser} → Opens rs firsts →
    is_one_of firsts (mark.Symbol sign.RoundOpen) ≡ false → is_one_of firsts (mark.Symbol sign.SquareOpen) ≡ false
    → Reads rs (k e) q → Reads (expr e ∷ rs) (expression k) q
part e o no_round no_square r = part_of (made e) o no_round no_square r

-- arguments in their brackets
next_arguments : (es : List Expr) {rs : List Reading} {k : List Expr → Parser} {q : Parser} → Reads rs (k es) q →
    Reads (bracketed es ∷ rs) (symbol sign.RoundOpen (arguments k)) q
next_arguments es r = flat _ (pass (arguments_made es (all_made es) r))

-- no choice and no call begins an expression
opens_expression : (e : Expr) (m : Mark) → ((from rest : List Token) → expr e from ≡ Some rest → starts m from ≡ false)
    → {rs : List Reading} {k : Place → Parser} {p q : Parser} → Reads (expr e ∷ rs) p q → Reads (expr e ∷ rs) (perhaps m k p) q
opens_expression e m other {rs} {k} {p} {q} r = record {
  reads = λ from rest h. let s = split (expr e) rs from rest h in absent m from k p (other from s.mid s.first) ∙ r.reads from rest h;
}

does_source : (kind : BlockKind) (k : Source → Parser) (from : List Token) → run (right_side kind k) from ≡ run (right_side_rule kind k) from
does_source Plain k = alike (right_side Plain k) (right_side_rule Plain k) refl (λ t. refl)
does_source Spec k = alike (right_side Spec k) (right_side_rule Spec k) refl (λ t. refl)
does_source Impl k = alike (right_side Impl k) (right_side_rule Impl k) refl (λ t. refl)

-- a right side and the semicolon after it
source_goes : (kind : BlockKind) (s : Source) (k : Source → Parser) {rs : List Reading} {q : Parser} → Reads (phrases.symbol sign.Semicolon ∷ rs) (k s) q
    → Reads (source_in kind s ∷ phrases.symbol sign.Semicolon ∷ rs) (right_side_rule kind k) q
source_goes Plain (source.Value e) k r = part e (opens_pass (mark.Symbol sign.Semicolon)) refl refl r
source_goes Spec (source.Value e) k r =
    opens_expression e (mark.Keyword word.Choose) (λ from rest h. (all_claims e).opens from rest h (mark.Keyword word.Choose) refl)
    (part e (opens_pass (mark.Symbol sign.Semicolon)) refl refl r)
source_goes Impl (source.Value e) k r =
    opens_expression e (mark.Keyword word.Call) (λ from rest h. (all_claims e).opens from rest h (mark.Keyword word.Call) refl)
    (part e (opens_pass (mark.Symbol sign.Semicolon)) refl refl r)
source_goes Plain (source.Choose at) k r = never
source_goes Spec (source.Choose at) k r = given_at at r
source_goes Impl (source.Choose at) k r = never
source_goes Plain (source.Call at f es) k r = never
source_goes Spec (source.Call at f es) k r = never
source_goes Impl (source.Call at f es) k r = flat _ (given_at at (next_name f (next_arguments es r)))

next_source : (kind : BlockKind) (s : Source) {k : Source → Parser} {rs : List Reading} {q : Parser} → Reads (phrases.symbol sign.Semicolon ∷ rs) (k s) q
    → Reads (source_in kind s ∷ phrases.symbol sign.Semicolon ∷ rs) (right_side kind k) q
next_source kind s {k} r = does (does_source kind k) (source_goes kind s k r)

-- indices, and something else after them
next_indices : (is : List Index) {rs : List Reading} {k : List Index → Parser} {q : Parser} {firsts : List Mark} → Opens rs firsts →
    is_one_of firsts (mark.Symbol sign.SquareOpen) ≡ false
    → Reads rs (k is) q → Reads (indices_of is ++ rs) (loop indices k) q
next_indices [] {rs} {k} {q} o apart r = record {
  reads =
      λ from rest h. ended indices from k (o.opens from rest h (mark.Symbol sign.SquareOpen) apart) ∙ r.reads from rest h;
}
next_indices (i ∷ is) {rs} {k} {q} o apart r = record {
  reads = λ from rest h.
      let s = split (takes (mark.Symbol sign.SquareOpen) i.bracket) (expr i.at ∷ phrases.symbol sign.SquareClose ∷ indices_of is ++ rs) from rest h in
      ap (run (loop indices k)) (took (mark.Symbol sign.SquareOpen) i.bracket from s.mid s.first) ∙ more indices i.bracket s.mid k
      ∙ (part i.at {k = λ e. symbol sign.SquareClose (loop indices (λ is. k (record { bracket = i.bracket; at = e } ∷ is)))}
      (opens_pass (mark.Symbol sign.SquareClose)) refl refl
      (pass (next_indices is {k = λ is. k (i ∷ is)} o apart r))).reads s.mid rest s.others;
}

-- the parser makes this statement of what is read in each kind of block, and others may come
pub record StatementMade (s : BlockKind → Reading) (t : Stmt) : Type 0 where
  pub made : (kind : BlockKind) (from rest : List Token) → s kind from ≡ Some rest → (k : List Stmt → Parser) →
      run (statements kind k) from ≡ run (statements kind (λ ss. k (t ∷ ss))) rest

-- the parser makes this block of what is read in each kind of block. One that isn't written has nothing in it
pub record BlockMade (p : BlockPhrase) (b : Block) : Type 0 where
  pub made : (kind : BlockKind) (from rest : List Token) → without_answer kind p p.answer from ≡ Some rest → (k : Block → Parser) →
      run (block kind k) from ≡ run (k b) rest
  pub is : is_unwritten p ≡ true → b ≡ unwritten

abbrev chosen : Option Parser → Option Parser → Option Parser
chosen p o = elim o as (λ o. Option Parser) [ Some q ↦ Some q | None ↦ p ]

-- a statement comes
comes : (kind : BlockKind) (t : Token) (ts : List Token) (k : List Stmt → Parser) (p : Parser) →
    statement kind t.mark (place_of t) (λ s. statements kind (λ ss. k (s ∷ ss))) ≡ Some p → run (statements kind k) (t ∷ ts) ≡ run p ts
comes kind t ts k p e = taken (statements kind k) p t ts (ap (chosen (step (k []) t)) e)

-- no statement comes
stops : (kind : BlockKind) (t : Token) (ts : List Token) (k : List Stmt → Parser) →
    statement kind t.mark (place_of t) (λ s. statements kind (λ ss. k (s ∷ ss))) ≡ None → run (statements kind k) (t ∷ ts) ≡ run (k []) (t ∷ ts)
stops kind t ts k e = left (statements kind k) (k []) t ts (ap (chosen (step (k []) t)) e)

-- a statement that begins with a token
begun : (kind : BlockKind) (m : Mark) {rs : List Reading} (t : Stmt) (next : (Stmt → Parser) → Parser) →
    ((at : Place) (k : Stmt → Parser) → statement kind m at k ≡ Some (next k))
    → ((k : Stmt → Parser) → Reads rs (next k) (k t)) → (from rest : List Token) → in_turn (passes m ∷ rs) from ≡ Some rest → (k : List Stmt → Parser)
    → run (statements kind k) from ≡ run (statements kind (λ ss. k (t ∷ ss))) rest
begun kind m {rs} t next first others from rest h k =
    let s = split (passes m) rs from rest h in let c = passed m from s.mid s.first in
    let k' : Stmt → Parser = λ s. statements kind (λ ss. k (s ∷ ss)) in
    ap (run (statements kind k)) c.is ∙ comes kind (token m c.at) s.mid k (next k') (first c.at k') ∙ (others k').reads s.mid rest s.others

-- a block, and what follows it
pub next_block : (kind : BlockKind) {p : BlockPhrase} {b : Block} → BlockMade p b → {rs : List Reading} {k : Block → Parser} {q : Parser} →
    Reads rs (k b) q → Reads (without_answer kind p p.answer ∷ rs) (block kind k) q
next_block kind {p} {b} m {rs} {k} {q} r = record {
  reads = λ from rest h. let s = split (without_answer kind p p.answer) rs from rest h in m.made kind from s.mid s.first k ∙ r.reads s.mid rest s.others;
}

-- the brace that a block begins with
opens_block : (kind : BlockKind) (p : BlockPhrase) (answer : Option Expr) {rs : List Reading} →
    Opens (without_answer kind p answer ∷ rs) (mark.Symbol sign.BraceOpen ∷ [])
opens_block kind p (Some e) {rs} = record { opens = λ from rest h m other. let s = split impossible rs from rest h in absurd (let k = s.first in cc) }
opens_block kind p None {rs} = record {
  opens = λ from rest h m other.
      let s = split (without_answer kind p None) rs from rest h in
      (opens_take (mark.Symbol sign.BraceOpen) p.place).opens from s.mid s.first m other;
}

pub some_is : (from mid : List Token) → Some from ≡ Some mid → from ≡ mid
some_is from mid h = cc

-- a keyword and a block, or neither
pub next_optional : (w : Keyword) (kind : BlockKind) {p : BlockPhrase} {b : Block} → BlockMade p b → {rs : List Reading} {k : Block → Parser} {q : Parser}
    → Reads rs (k b) q → Reads (optional_block w kind p ∷ rs) (optional w kind k) q
next_optional w kind {p} {b} m {rs} {k} {q} r = record {
  reads = λ from rest h. let s = split (optional_block w kind p) rs from rest h in
      cases from s.mid (starts (mark.Keyword w) from) refl (is_unwritten p) refl s.first ∙ r.reads s.mid rest s.others;
}
  where
    cases : (from mid : List Token) (s : Bool) → starts (mark.Keyword w) from ≡ s → (u : Bool) → is_unwritten p ≡ u
        → (if s then in_turn (phrases.keyword w ∷ without_answer kind p p.answer ∷ []) from else if u then Some from else None) ≡ Some mid →
        run (optional w kind k) from ≡ run (k b) mid
    cases from mid true e u is h = (given (next_block kind m done)).reads from mid h
    cases from mid false e true is h = absent (mark.Keyword w) from (λ at. block kind k) (k unwritten) e ∙ ap (λ b. run (k b) from) (sym (m.is is))
        ∙ ap (run (k b)) (some_is from mid h)
    cases from mid false e false is h = absurd (cc)

pub skips_optional : (w : Keyword) (kind : BlockKind) (p : BlockPhrase) → Skips (optional_block w kind p) (mark.Keyword w)
skips_optional w kind p = record { skips = λ from rest h e. cases from rest (starts (mark.Keyword w) from) e (is_unwritten p) h }
  where
    cases : (from mid : List Token) (s : Bool) → s ≡ false → (u : Bool)
        → (if s then in_turn (phrases.keyword w ∷ without_answer kind p p.answer ∷ []) from else if u then Some from else None) ≡ Some mid → from ≡ mid
    cases from mid true e u h = absurd (cc)
    cases from mid false e true h = cc
    cases from mid false e false h = absurd (cc)

-- all of these
abbrev AllStatements : List Stmt → Type 0
AllStatements [] = Unit {0}
AllStatements (t ∷ ts) = StatementMade (blocks.statement t) t × AllStatements ts

-- statements one after another, where none follows
all_run : (kind : BlockKind) (ts : List Stmt) → AllStatements ts → (from rest : List Token) →
    in_turn (map (λ (s : BlockKind → Reading). s kind) (map blocks.statement ts)) from ≡ Some rest
    → ((k : List Stmt → Parser) → run (statements kind k) rest ≡ run (k []) rest) → (k : List Stmt → Parser) → run (statements kind k) from ≡ run (k ts) rest
all_run kind [] all from rest h end k = ap (run (statements kind k)) (empty from rest h) ∙ end k
all_run kind (t ∷ ts) all from rest h end k =
    let s = split (blocks.statement t kind) (map (λ (s : BlockKind → Reading). s kind) (map blocks.statement ts)) from rest h in
    all.0.made kind from s.mid s.first k ∙ all_run kind ts all.1 s.mid rest s.others end (λ ss. k (t ∷ ss))

ends_close : (kind : BlockKind) (at : Place) (ts : List Token) (k : List Stmt → Parser) →
    run (statements kind k) (token (mark.Symbol sign.BraceClose) at ∷ ts) ≡ run (k []) (token (mark.Symbol sign.BraceClose) at ∷ ts)
ends_close Plain at ts k = stops Plain (token (mark.Symbol sign.BraceClose) at) ts k refl
ends_close Spec at ts k = stops Spec (token (mark.Symbol sign.BraceClose) at) ts k refl
ends_close Impl at ts k = stops Impl (token (mark.Symbol sign.BraceClose) at) ts k refl

ends_return : (kind : BlockKind) (at : Place) (ts : List Token) (k : List Stmt → Parser) →
    run (statements kind k) (token (mark.Keyword word.Return) at ∷ ts) ≡ run (k []) (token (mark.Keyword word.Return) at ∷ ts)
ends_return Plain at ts k = stops Plain (token (mark.Keyword word.Return) at) ts k refl
ends_return Spec at ts k = stops Spec (token (mark.Keyword word.Return) at) ts k refl
ends_return Impl at ts k = stops Impl (token (mark.Keyword word.Return) at) ts k refl

-- statements in their braces
abbrev phrase_of : Place → List Stmt → Option Expr → BlockPhrase
phrase_of place ts answer = record { place = place; statements = map blocks.statement ts; answer = answer }

abbrev block_of : Place → List Stmt → Option Expr → Block
block_of place ts answer = record { place = place; statements = ts; answer = answer }

same_number : (m n : ℕ) → m == n ≡ true → m ≡ n
same_number m n h = grind (arith, nat_tests)

pub both : (b c : Bool) → b && c ≡ true → (b ≡ true) × (c ≡ true)
both true c h = (refl, h)
both false c h = absurd (cc)

-- a place of no token
pub nowhere_is : (place : Place) → is_nowhere place ≡ true → place ≡ unwritten.place
nowhere_is place h =
    let b = both (place.line == 0) (place.column == 0) h in
    let line : place.line ≡ 0 = same_number place.line 0 b.0 in let column : place.column ≡ 0 = same_number place.column 0 b.1 in
    λ i. record { line = line i; column = column i }

braces_made : (place : Place) (ts : List Stmt) (answer : Option Expr) → AllStatements ts → BlockMade (phrase_of place ts answer) (block_of place ts answer)
braces_made place ts answer all = record {
  made = λ kind from rest h k. cases kind answer from rest h k;
  is = λ h. let b =
      both (is_nowhere place) (nothing_in (map blocks.statement ts) answer) h in nothing ts answer b.1 (nowhere_is place b.0);
}
  where
    cases : (kind : BlockKind) (answer : Option Expr) (from rest : List Token) → without_answer kind (phrase_of place ts answer) answer from ≡ Some rest →
        (k : Block → Parser) → run (block kind k) from ≡ run (k (block_of place ts answer)) rest
    cases kind (Some e) from rest h k = absurd (cc)
    cases kind None from rest h k =
        let p = phrase_of place ts None in
        let s = split (takes (mark.Symbol sign.BraceOpen) place) (statements_in kind p ∷ phrases.symbol sign.BraceClose ∷ []) from rest h in
        let i = split (statements_in kind p) (phrases.symbol sign.BraceClose ∷ []) s.mid rest s.others in
        let t = split (phrases.symbol sign.BraceClose) [] i.mid rest i.others in
        let c = passed (mark.Symbol sign.BraceClose) i.mid t.mid t.first in
        let k' : List Stmt → Parser = λ ss. symbol sign.BraceClose (k (block_of place ss None)) in
        let end : (k : List Stmt → Parser) → run (statements kind k) i.mid ≡ run (k []) i.mid = λ k. ap (run (statements kind k)) c.is
        ∙ ends_close kind c.at t.mid k ∙ ap (run (k [])) (sym c.is) in
        ap (run (block kind k)) (took (mark.Symbol sign.BraceOpen) place from s.mid s.first)
        ∙ taken (block kind k) (statements kind k') (token (mark.Symbol sign.BraceOpen) place) s.mid refl
        ∙ all_run kind ts all s.mid i.mid i.first end k' ∙ (pass {p = k (block_of place ts None)} done).reads i.mid rest i.others

    nothing : (ts : List Stmt) (answer : Option Expr) → nothing_in (map blocks.statement ts) answer ≡ true → place ≡ unwritten.place →
        block_of place ts answer ≡ unwritten
    nothing [] None h e = ap (λ place. block_of place [] None) e
    nothing [] (Some a) h e = absurd (cc)
    nothing (t ∷ ts) answer h e = absurd (cc)

-- statements in their braces, with an answer
answering_run : (place : Place) (ts : List Stmt) → AllStatements ts → (kind : BlockKind) (answer : Option Expr) (from rest : List Token) →
    with_answer kind (phrase_of place ts answer) answer from ≡ Some rest
    → (k : Block → Parser) → run (answering kind k) from ≡ run (k (block_of place ts answer)) rest
answering_run place ts all kind None from rest h k = absurd (cc)
answering_run place ts all kind (Some e) from rest h k =
    let p = phrase_of place ts (Some e) in
    let others : List Reading = phrases.keyword word.Return ∷ expr e ∷ phrases.symbol sign.Semicolon ∷ phrases.symbol sign.BraceClose ∷ [] in
    let s = split (takes (mark.Symbol sign.BraceOpen) place) (statements_in kind p ∷ others) from rest h in
    let i = split (statements_in kind p) others s.mid rest s.others in
    let t = split (phrases.keyword word.Return) (expr e ∷ phrases.symbol sign.Semicolon ∷ phrases.symbol sign.BraceClose ∷ []) i.mid rest i.others in
    let c = passed (mark.Keyword word.Return) i.mid t.mid t.first in
    let k' : List Stmt → Parser = λ ss. keyword word.Return
    (expression (λ e. symbol sign.Semicolon (symbol sign.BraceClose (k (block_of place ss (Some e)))))) in
    let end : (k : List Stmt → Parser) → run (statements kind k) i.mid ≡ run (k []) i.mid = λ k. ap (run (statements kind k)) c.is
    ∙ ends_return kind c.at t.mid k ∙ ap (run (k [])) (sym c.is) in
    ap (run (answering kind k)) (took (mark.Symbol sign.BraceOpen) place from s.mid s.first)
    ∙ taken (answering kind k) (statements kind k') (token (mark.Symbol sign.BraceOpen) place) s.mid refl
    ∙ all_run kind ts all s.mid i.mid i.first end k' ∙
    (pass (part e {k = λ e. symbol sign.Semicolon (symbol sign.BraceClose (k (block_of place ts (Some e))))}
    (opens_pass (mark.Symbol sign.Semicolon)) refl refl (pass (pass done)))).reads i.mid rest i.others

-- statements and blocks with what is shown of them
abbrev phrase_in : Block → BlockPhrase
phrase_in = fold-Block (BlockKind → Reading) BlockPhrase node_statement node_block

abbrev S : Type 0
S = (t : Stmt) × StatementMade (blocks.statement t) t

abbrev B : Type 0
B = (b : Block) × BlockMade (phrase_in b) b

abbrev stmt_in : S → Stmt
stmt_in s = s.0

abbrev block_in : B → Block
block_in b = b.0

call_made : (f : Name) (es : List Expr) → StatementMade (node_statement (Stmt-F.Call f es)) (roll-Stmt (Stmt-F.Call f es))
call_made f es = record { made = cases }
  where
    cases : (kind : BlockKind) (from rest : List Token) → node_statement (Stmt-F.Call f es) kind from ≡ Some rest → (k : List Stmt → Parser)
        → run (statements kind k) from ≡ run (statements kind (λ ss. k (roll-Stmt (Stmt-F.Call f es) ∷ ss))) rest
    cases Plain from rest h k = absurd (cc)
    cases Spec from rest h k = absurd (cc)
    cases Impl from rest h k =
        begun Impl (mark.Keyword word.Call) (roll-Stmt (Stmt-F.Call f es))
        (λ k. name (λ f. symbol sign.RoundOpen (arguments (λ es. symbol sign.Semicolon (k (roll-Stmt (Stmt-F.Call f es)))))))
        (λ at k. refl) (λ k. next_name f (next_arguments es (pass done))) from rest h k

assign_made : (x : Name) (is : List Index) (v : Source) → StatementMade (node_statement (Stmt-F.Assign x is v)) (roll-Stmt (Stmt-F.Assign x is v))
assign_made x is v = record {
  made = λ kind from rest h k.
      let t = roll-Stmt (Stmt-F.Assign x is v) in
      let k' : Stmt → Parser = λ s. statements kind (λ ss. k (s ∷ ss)) in
      let others : List Reading = in_turn (indices_of is) ∷ phrases.symbol sign.Assign ∷ source_in kind v ∷ phrases.symbol sign.Semicolon ∷ [] in
      let s = split (named x) others from rest h in
      let next : Parser = loop indices (λ is. symbol sign.Assign (right_side kind (λ s. symbol sign.Semicolon (k' (roll-Stmt (Stmt-F.Assign x is s)))))) in
      ap (run (statements kind k)) (took (mark.Name x.text) x.place from s.mid s.first) ∙ comes kind (token (mark.Name x.text) x.place) s.mid k next refl
      ∙ (flat _ (next_indices is {k = λ is. symbol sign.Assign (right_side kind (λ s. symbol sign.Semicolon (k' (roll-Stmt (Stmt-F.Assign x is s)))))}
      (opens_pass (mark.Symbol sign.Assign)) refl
      (pass (next_source kind v (pass done))))).reads s.mid rest s.others;
}

stmt_case : (y : Stmt-F S B) → StatementMade (node_statement
    (map-Stmt Stmt Block (BlockKind → Reading) BlockPhrase blocks.statement phrase_in (map-Stmt S B Stmt Block stmt_in block_in y)))
    (roll-Stmt (map-Stmt S B Stmt Block stmt_in block_in y))
stmt_case (Stmt-F.Let x v) = record {
  made = λ kind. begun kind (mark.Keyword word.Let) (roll-Stmt (Stmt-F.Let x v)) _ (λ at k. refl)
      (λ k. next_name x (pass (next_source kind v (pass done))));
}
stmt_case (Stmt-F.Assign x is v) = assign_made x is v
stmt_case (Stmt-F.If test a b) = record {
  made = λ kind. begun kind (mark.Keyword word.If) (roll-Stmt (Stmt-F.If test a.0 b.0)) _ (λ at k. refl)
      (λ k. part test (opens_block kind (phrase_in a.0) (phrase_in a.0).answer) refl refl (next_block kind a.1 (next_optional word.Else kind b.1 done)));
}
stmt_case (Stmt-F.For x w n each) = record {
  made = λ kind. begun kind (mark.Keyword word.For) (roll-Stmt (Stmt-F.For x w n each.0)) _ (λ at k. refl)
      (λ k. next_name x (pass (next_number w (pass (next_number n (next_block kind each.1 done))))));
}
stmt_case (Stmt-F.Call f es) = call_made f es

all_in : (ts : List S) → AllStatements (map stmt_in ts)
all_in [] = tt
all_in (t ∷ ts) = (t.1, all_in ts)

block_case : (y : Block-F S B) → BlockMade (node_block
    (map-Block Stmt Block (BlockKind → Reading) BlockPhrase blocks.statement phrase_in (map-Block S B Stmt Block stmt_in block_in y)))
    (roll-Block (map-Block S B Stmt Block stmt_in block_in y))
block_case y = braces_made y.place (map stmt_in y.statements) y.answer (all_in y.statements)

-- the parser makes each statement
pub statement_made : (t : Stmt) → StatementMade (blocks.statement t) t
statement_made =
    ind-Stmt (λ t. StatementMade (blocks.statement t) t) (λ b. BlockMade (phrase_in b) b)
    (λ x y is. subst (λ (s : BlockKind → Reading). StatementMade s (roll-Stmt x))
    (sym (fold-roll-Stmt (BlockKind → Reading) BlockPhrase node_statement node_block x))
    (subst (λ z. StatementMade (node_statement (map-Stmt Stmt Block (BlockKind → Reading) BlockPhrase blocks.statement phrase_in z)) (roll-Stmt z)) is
    (stmt_case y)))
    (λ x y is. subst (λ (p : BlockPhrase). BlockMade p (roll-Block x)) (sym (fold-roll-Block (BlockKind → Reading) BlockPhrase node_statement node_block x))
    (subst (λ z. BlockMade (node_block (map-Block Stmt Block (BlockKind → Reading) BlockPhrase blocks.statement phrase_in z)) (roll-Block z)) is
    (block_case y)))

statements_made : (ts : List Stmt) → AllStatements ts
statements_made [] = tt
statements_made (t ∷ ts) = (statement_made t, statements_made ts)

-- the parser makes each block
pub block_made : (b : Block) → BlockMade (block_phrase b) b
block_made b = braces_made b.place b.statements b.answer (statements_made b.statements)

-- a block with an answer, and what follows it
pub next_answering : (kind : BlockKind) (b : Block) {rs : List Reading} {k : Block → Parser} {q : Parser} → Reads rs (k b) q →
    Reads (with_answer kind (block_phrase b) b.answer ∷ rs) (answering kind k) q
next_answering kind b {rs} {k} {q} r = record {
  reads = λ from rest h. let s = split (with_answer kind (block_phrase b) b.answer) rs from rest h in
      answering_run b.place b.statements (statements_made b.statements) kind b.answer from s.mid s.first k ∙ r.reads s.mid rest s.others;
}
