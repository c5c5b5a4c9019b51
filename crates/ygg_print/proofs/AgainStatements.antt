-- Where statements and blocks derive, such that are the same but for places derive from all tokens with their printed marks.
use Rattle.std.proofs.Common.{
  ◌≡◌,
  Bool,
  true,
  false,
  ◌&&◌,
  if◌then◌else◌,
  List,
  [],
  ◌∷◌,
  ◌++◌,
  map,
  Option,
  Some,
  None,
  option_map,
  refl,
  sym,
  ap,
  ◌∙◌,
  subst,
  append_assoc,
}
use Rattle.ygg_base.specs.declared.token.Keyword.{Keyword}
use Rattle.ygg_base.specs.declared.token.Keyword.TheVariants as word
use Rattle.ygg_base.specs.declared.token.Symbol.TheVariants as sign
use Rattle.ygg_base.specs.declared.token.Mark.{Mark}
use Rattle.ygg_base.specs.declared.token.Mark.TheVariants as mark
use Rattle.ygg_base.specs.declared.token.Token.{Token}
use Rattle.ygg_syntax.specs.declared.grammar.BlockKind.{BlockKind}
use Rattle.ygg_syntax.specs.declared.grammar.BlockKind.TheVariants.{Plain, Spec, Impl}
use Rattle.ygg_syntax.specs.declared.tree.Place.{Place}
use Rattle.ygg_syntax.specs.declared.tree.Name.{Name}
use Rattle.ygg_syntax.specs.declared.tree.Index.{Index}
use Rattle.ygg_syntax.specs.declared.tree.Expr.{Expr}
use Rattle.ygg_syntax.specs.declared.tree.Source.{Source}
use Rattle.ygg_syntax.specs.declared.tree.Source.TheVariants as source
use Rattle.ygg_syntax.specs.declared.tree.Stmt.{Stmt, roll-Stmt, map-Stmt}
use Rattle.ygg_syntax.specs.declared.tree.Block.{Block, roll-Block, map-Block, fold-Block}
use Rattle.ygg_syntax.specs.declared.tree.Stmt.TheOpen.{Stmt-F, Block-F}
use Rattle.ygg_syntax.specs.declared.tree.Stmt.TheFolds.{ind-Stmt, fold-roll-Stmt, fold-roll-Block}
use Rattle.ygg_syntax.specs.Reading.{Reading, starts, passes, takes, in_turn}
use Rattle.ygg_syntax.specs.Blocks.{
  BlockPhrase,
  bracketed,
  source_in,
  indices_of,
  without_answer,
  with_answer,
  is_nowhere,
  is_unwritten,
  optional_block,
  node_statement,
  node_block,
  statement,
  block_phrase,
}
use Rattle.ygg_print.specs.Printed.{printed}
use Rattle.ygg_print.specs.Printed as print
use Rattle.ygg_print.specs.PrintedBlocks.{
  all_printed,
  source_printed,
  indices_printed,
  BlockPrinted,
  node_block_printed,
  node_stmt_printed,
  stmt_printed,
  block_printed,
}
use Rattle.ygg_syntax.specs.Bare.{nowhere, bare, bare_source, bare_index, node_bare_statement, node_bare_block, bare_statement, bare_block}
use Rattle.ygg_read.proofs.ExpressionPhrases as phrases
use Rattle.ygg_read.proofs.Marks.{passed, took}
use Rattle.ygg_read.proofs.TakenWhole.{split, empty}
use Rattle.ygg_print.specs.UniqueLaws.{is_optional, LeftOut, leaves}
use Rattle.ygg_print.proofs.Parser.{unwritten}
use Rattle.ygg_print.proofs.StatementMarks.{some_is}
use Rattle.ygg_print.proofs.Again.{
  marks_of,
  Read,
  Single,
  Again,
  row,
  kept,
  joint,
  goes,
  turns,
  done,
  pass,
  take,
  part,
  turn,
  spelled,
  never,
  last,
  token_at,
  begins,
  starts_is,
  Ending,
  Apart,
  ending,
  unending,
  turn_ending,
  spelled_ending,
  part_ending,
}
use Rattle.ygg_print.proofs.AgainExpressions.{anew, all_anew, any_anew, LikeAll, name_at, number_at, name, number, round, close}

-- something that is this without places
abbrev pub Alike : {A : Type 0} → (A → A) → A → Type 0
Alike {A} without b = (a : A) × (without a ≡ b)

-- arguments in their brackets
bracketed_anew : (es : List Expr) → Single (bracketed es) (print.bracketed (map printed es)) (LikeAll (map bare es)) (λ z. bracketed z.0)
bracketed_anew es = turn (λ z. z.0) (λ z ts. refl) (row (pass round (part (any_anew es (all_anew es)) (pass close done))))

-- a right side
source_anew : (kind : BlockKind) (s : Source) → Single (source_in kind s) (source_printed s) (Alike bare_source (bare_source s)) (λ z. source_in kind z.0)
source_anew kind (source.Value e) = turn (λ z. (source.Value z.0, λ i. source.Value (z.1.0 i))) (λ z ts. refl) (anew e)
source_anew Plain (source.Choose at) = never
source_anew Spec (source.Choose at) = turn (λ z. (source.Choose z, refl)) (λ z ts. refl) (token_at (mark.Keyword word.Choose) at)
source_anew Impl (source.Choose at) = never
source_anew Plain (source.Call at f es) = never
source_anew Spec (source.Call at f es) = never
source_anew Impl (source.Call at f es) =
    turn (λ z. (source.Call z.0 (name_at f z.1.0) z.1.1.0, λ i. source.Call nowhere (name_at f nowhere) (z.1.1.1 i))) (λ z ts. refl)
    (row (take (mark.Keyword word.Call) at (take (name f) f.place (last (bracketed_anew es)))))

-- indices
indices_anew : (is : List Index) → Again (indices_of is) (indices_printed is) (Alike (map bare_index) (map bare_index is)) (λ z. indices_of z.0)
indices_anew [] = turns (λ z. ([], refl)) (λ z. refl) done
indices_anew (i ∷ is) =
    turns (λ z. (record { bracket = z.0; at = z.1.0.0 } ∷ z.1.1.0, λ j. record { bracket = nowhere; at = z.1.0.1.0 j } ∷ z.1.1.1 j)) (λ z. refl)
    (take (mark.Symbol sign.SquareOpen) i.bracket (part (anew i.at) (pass (mark.Symbol sign.SquareClose) (indices_anew is))))

-- a statement that is the same but for places is read from the marks, where no `else` follows. No statement begins with one
pub record StatementAnew (s : BlockKind → Reading) (b : Stmt) (ms : List Mark) : Type 0 where
  pub again : (kind : BlockKind) → Ending (mark.Keyword word.Else) (s kind) ms (Alike bare_statement b) (λ z. statement z.0 kind)
  pub opens : Apart (mark.Keyword word.Else) ms

abbrev AllAnew : List Stmt → Type 0
AllAnew [] = Unit {0}
AllAnew (t ∷ ts) = StatementAnew (statement t) (bare_statement t) (stmt_printed t) × AllAnew ts

abbrev in_kind : BlockKind → List Stmt → List Reading
in_kind kind ts = map (λ (s : BlockKind → Reading). s kind) (map statement ts)

-- statements one after another
all_again : (kind : BlockKind) (ts : List Stmt) → AllAnew ts →
    Ending (mark.Keyword word.Else) (in_turn (in_kind kind ts)) (all_printed (map stmt_printed ts))
    (Alike (map bare_statement) (map bare_statement ts)) (λ z. in_turn (in_kind kind z.0))
all_again kind [] all = unending (turn (λ z. ([], refl)) (λ z ts. refl) (row done))
all_again kind (t ∷ ts) all = record {
  single = λ from rest h tokens tail apart same.
      let s = split (statement t kind) (in_kind kind ts) from rest h in
      let a = (all.0.again kind).single from s.mid s.first tokens (all_printed (map stmt_printed ts) ++ tail) (next ts all.1 tail apart)
      (same ∙ append_assoc (stmt_printed t) (all_printed (map stmt_printed ts)) tail) in
      let f = (all_again kind ts all.1).single s.mid rest s.others a.rest tail apart a.left in
      record {
        made = (a.made.0 ∷ f.made.0, λ i. a.made.1 i ∷ f.made.1 i);
        rest = f.rest;
        is = goes (statement a.made.0 kind) (in_kind kind f.made.0) tokens a.rest a.is ∙ f.is;
        left = f.left;
      };
  keeps = λ from rest h tail w.
      let s = split (statement t kind) (in_kind kind ts) from rest h in
      joint (stmt_printed t) (all_printed (map stmt_printed ts)) tail
      ((all.0.again kind).keeps from s.mid s.first (all_printed (map stmt_printed ts) ++ tail)
      ((all_again kind ts all.1).keeps s.mid rest s.others tail w));
}
  where
    next : (ts : List Stmt) → AllAnew ts → (tail : List Mark) → begins (mark.Keyword word.Else) tail ≡ false →
        begins (mark.Keyword word.Else) (all_printed (map stmt_printed ts) ++ tail) ≡ false
    next [] all tail apart = apart
    next (t ∷ ts) all tail apart = ap (begins (mark.Keyword word.Else)) (append_assoc (stmt_printed t) (all_printed (map stmt_printed ts)) tail)
        ∙ all.0.opens (all_printed (map stmt_printed ts) ++ tail)

-- a block that is the same but for places is read from the marks. One with nothing in it may be left out, and one that isn't written has nothing in it
pub record BlockAnew (phrase_in : Block → BlockPhrase) (bare_in : Block → Block) (p : BlockPhrase) (b : Block) (ms : BlockPrinted) : Type 0 where
  pub again : (kind : BlockKind) → Single (without_answer kind p p.answer) ms.marks (Alike bare_in b)
      (λ z. without_answer kind (phrase_in z.0) (phrase_in z.0).answer)
  pub nothing : ms.empty ≡ true → bare_in unwritten ≡ b
  pub left_out : is_unwritten (phrase_in unwritten) ≡ true
  pub written : ms.empty ≡ false → is_unwritten p ≡ false
  pub hollow : ms.empty ≡ true → (kind : BlockKind) (from rest : List Token) → without_answer kind p p.answer from ≡ Some rest →
      marks_of from ≡ mark.Symbol sign.BraceOpen ∷ mark.Symbol sign.BraceClose ∷ marks_of rest

-- the marks of a block that may be left out
abbrev pub optional_marks : Keyword → BlockPrinted → List Mark
optional_marks k ms = if ms.empty then [] else mark.Keyword k ∷ ms.marks

-- a block that may be left out: one with nothing in it is
pub optional_anew : (k : Keyword) → is_optional k ≡ true →
    (kind : BlockKind) {phrase_in : Block → BlockPhrase} {bare_in : Block → Block} {p : BlockPhrase} {b : Block} {ms : BlockPrinted} →
    BlockAnew phrase_in bare_in p b ms
    → Ending (mark.Keyword k) (optional_block k kind p) (optional_marks k ms) (Alike bare_in b) (λ z. optional_block k kind (phrase_in z.0))
optional_anew k may kind {phrase_in} {bare_in} {p} {b} {ms} one = record {
  single = λ from rest h tokens tail apart same. cases ms.empty refl from rest h tokens tail apart same;
  keeps = λ from rest h tail w. kept_so (starts (mark.Keyword k) from) (is_unwritten p) refl ms.empty refl from rest h tail w;
}
  where
    absent : (q : BlockPhrase) (ts : List Token) → starts (mark.Keyword k) ts ≡ false → is_unwritten q ≡ true → optional_block k kind q ts ≡ Some ts
    absent q ts s u = ap (λ (s : Bool). if s then in_turn (passes (mark.Keyword k) ∷ without_answer kind q q.answer ∷ []) ts else if is_unwritten q
        then Some ts else None) s
        ∙ ap (λ (u : Bool). if u then Some ts else None) u

    there : (q : BlockPhrase) (ts rest : List Token) → starts (mark.Keyword k) ts ≡ true →
        in_turn (passes (mark.Keyword k) ∷ without_answer kind q q.answer ∷ []) ts ≡ Some rest → optional_block k kind q ts ≡ Some rest
    there q ts rest s h = ap (λ (s : Bool). if s then in_turn (passes (mark.Keyword k) ∷ without_answer kind q q.answer ∷ []) ts
        else if is_unwritten q then Some ts else None) s ∙ h

    -- what was written may be left out, and what wasn't is
    kept_so : (s u : Bool) → is_unwritten p ≡ u → (empty : Bool) → ms.empty ≡ empty → (from rest : List Token)
        → (if s then in_turn (passes (mark.Keyword k) ∷ without_answer kind p p.answer ∷ []) from else if u then Some from else None) ≡ Some rest →
        (tail : List Mark) → LeftOut (marks_of rest) tail
        → LeftOut (marks_of from) ((if empty then [] else mark.Keyword k ∷ ms.marks) ++ tail)
    kept_so true u n true e from rest h tail w =
        let s = split (passes (mark.Keyword k)) (without_answer kind p p.answer ∷ []) from rest h in let t =
        split (without_answer kind p p.answer) [] s.mid rest s.others in
        kept (passed (mark.Keyword k) from s.mid s.first).is tail
        (subst (λ (ns : List Mark). LeftOut (mark.Keyword k ∷ ns) tail) (sym (one.hollow e kind s.mid t.mid t.first))
        (leaves may (kept (empty t.mid rest t.others) tail w)))
    kept_so true u n false e from rest h tail w = (pass (mark.Keyword k) (last (one.again kind))).keeps from rest h tail w
    kept_so false true n true e from rest h tail w = kept (some_is from rest h) tail w
    kept_so false true n false e from rest h tail w = absurd (let k = one.written e in cc)
    kept_so false false n b e from rest h tail w = absurd (cc)

    derived : (s u : Bool) → u ≡ false → (from rest : List Token)
        → (if s then in_turn (passes (mark.Keyword k) ∷ without_answer kind p p.answer ∷ []) from else if u then Some from else None) ≡ Some rest →
        in_turn (passes (mark.Keyword k) ∷ without_answer kind p p.answer ∷ []) from ≡ Some rest
    derived true u e from rest h = h
    derived false true e from rest h = absurd (cc)
    derived false false e from rest h = absurd (cc)

    cases : (empty : Bool) → ms.empty ≡ empty → (from rest : List Token) → optional_block k kind p from ≡ Some rest →
        (tokens : List Token) (tail : List Mark) → begins (mark.Keyword k) tail ≡ false
        → marks_of tokens ≡ (if empty then [] else mark.Keyword k ∷ ms.marks) ++ tail →
        Read (Alike bare_in b) (λ z. optional_block k kind (phrase_in z.0)) tokens tail
    cases true e from rest h tokens tail apart same = record {
      made = (unwritten, one.nothing e);
      rest = tokens;
      is = absent (phrase_in unwritten) tokens (starts_is (mark.Keyword k) tokens ∙ ap (begins (mark.Keyword k)) same ∙ apart) one.left_out;
      left = same;
    }
    cases false e from rest h tokens tail apart same =
        let a = (pass (mark.Keyword k) (last (one.again kind))).single from rest
        (derived (starts (mark.Keyword k) from) (is_unwritten p) (one.written e) from rest h) tokens tail same in
        record {
          made = a.made;
          rest = a.rest;
          is = there (phrase_in a.made.0) tokens a.rest (starts_is (mark.Keyword k) tokens ∙ ap (begins (mark.Keyword k)) same
              ∙ phrases.same (mark.Keyword k)) a.is;
          left = a.left;
        }

-- a block of these
abbrev phrase_of : Place → List Stmt → Option Expr → BlockPhrase
phrase_of place ts answer = record { place = place; statements = map statement ts; answer = answer }

abbrev block_of : Place → List Stmt → Option Expr → Block
block_of place ts answer = record { place = place; statements = ts; answer = answer }

abbrev marks_in : List Stmt → Option Expr → BlockPrinted
marks_in ts answer = node_block_printed (record { place = nowhere; statements = map stmt_printed ts; answer = answer })

and_false : (b : Bool) → b && false ≡ false
and_false true = refl
and_false false = refl

braces_anew : (phrase_in : Block → BlockPhrase) (bare_in : Block → Block) →
    ((place : Place) (ts : List Stmt) → phrase_in (block_of place ts None) ≡ phrase_of place ts None)
    → ((place : Place) (ts : List Stmt) → bare_in (block_of place ts None) ≡ block_of nowhere (map bare_statement ts) None) →
    (place : Place) (ts : List Stmt) (answer : Option Expr) → AllAnew ts
    → BlockAnew phrase_in bare_in (phrase_of place ts answer) (block_of nowhere (map bare_statement ts) (option_map bare answer)) (marks_in ts answer)
braces_anew phrase_in bare_in phrase_is bare_is place ts answer all = record {
  again = λ kind. again kind answer;
  nothing = nothing ts answer;
  left_out = ap is_unwritten (phrase_is nowhere []);
  written = written ts answer;
  hollow = λ h kind from rest d. hollow ts answer h kind from rest d;
}
  where
    again : (kind : BlockKind) (answer : Option Expr)
        → Single (without_answer kind (phrase_of place ts answer) answer) (marks_in ts answer).marks
        (Alike bare_in (block_of nowhere (map bare_statement ts) (option_map bare answer)))
        (λ z. without_answer kind (phrase_in z.0) (phrase_in z.0).answer)
    again kind (Some e) = never
    again kind None =
        turn (λ z. (block_of z.0 z.1.0.0 None, bare_is z.0 z.1.0.0 ∙ ap (λ (ts : List Stmt). block_of nowhere ts None) z.1.0.1))
        (λ z tokens. ap (λ (p : BlockPhrase). without_answer kind p p.answer tokens) (phrase_is z.0 z.1.0.0))
        (row (take (mark.Symbol sign.BraceOpen) place (ending (all_again kind ts all) (λ tail. refl) (pass (mark.Symbol sign.BraceClose) done))))

    nothing : (ts : List Stmt) (answer : Option Expr) → (marks_in ts answer).empty ≡ true →
        bare_in unwritten ≡ block_of nowhere (map bare_statement ts) (option_map bare answer)
    nothing [] None h = bare_is nowhere []
    nothing [] (Some e) h = absurd (cc)
    nothing (t ∷ ts) answer h = absurd (cc)

    written : (ts : List Stmt) (answer : Option Expr) → (marks_in ts answer).empty ≡ false → is_unwritten (phrase_of place ts answer) ≡ false
    written [] None h = absurd (cc)
    written [] (Some e) h = and_false (is_nowhere place)
    written (t ∷ ts) answer h = and_false (is_nowhere place)

    hollow : (ts : List Stmt) (answer : Option Expr) → (marks_in ts answer).empty ≡ true → (kind : BlockKind) (from rest : List Token) →
        without_answer kind (phrase_of place ts answer) answer from ≡ Some rest
        → marks_of from ≡ mark.Symbol sign.BraceOpen ∷ mark.Symbol sign.BraceClose ∷ marks_of rest
    hollow [] (Some e) h kind from rest d = absurd (cc)
    hollow (t ∷ ts) answer h kind from rest d = absurd (cc)
    hollow [] None h kind from rest d =
        let s = split (takes (mark.Symbol sign.BraceOpen) place) (in_turn [] ∷ passes (mark.Symbol sign.BraceClose) ∷ []) from rest d in
        let i = split (in_turn []) (passes (mark.Symbol sign.BraceClose) ∷ []) s.mid rest s.others in
        let t = split (passes (mark.Symbol sign.BraceClose)) [] i.mid rest i.others in
        ap marks_of (took (mark.Symbol sign.BraceOpen) place from s.mid s.first)
        ∙ ap (λ (ts : List Token). mark.Symbol sign.BraceOpen ∷ marks_of ts)
        (empty s.mid i.mid i.first ∙ (passed (mark.Symbol sign.BraceClose) i.mid t.mid t.first).is)
        ∙ ap (λ (ts : List Token). mark.Symbol sign.BraceOpen ∷ mark.Symbol sign.BraceClose ∷ marks_of ts) (empty t.mid rest t.others)

-- a block with an answer
answering_anew : (kind : BlockKind) (place : Place) (ts : List Stmt) (answer : Option Expr) → AllAnew ts
    → Single (with_answer kind (phrase_of place ts answer) answer) (marks_in ts answer).marks
    (Alike bare_block (block_of nowhere (map bare_statement ts) (option_map bare answer)))
    (λ z. with_answer kind (block_phrase z.0) (block_phrase z.0).answer)
answering_anew kind place ts None all = never
answering_anew kind place ts (Some e) all =
    turn (λ z. (block_of z.0 z.1.0.0 (Some z.1.1.0.0), λ i. block_of nowhere (z.1.0.1 i) (Some (z.1.1.0.1.0 i)))) (λ z tokens. refl)
    (row (take (mark.Symbol sign.BraceOpen) place (spelled
    (ap (λ (ms : List Mark). all_printed (map stmt_printed ts) ++ (mark.Keyword word.Return ∷ ms))
    (append_assoc (printed e) (mark.Symbol sign.Semicolon ∷ []) (mark.Symbol sign.BraceClose ∷ [])))
    (ending (all_again kind ts all) (λ tail. refl) (pass (mark.Keyword word.Return)
    (part (anew e) (pass (mark.Symbol sign.Semicolon) (pass (mark.Symbol sign.BraceClose) done))))))))

-- statements and blocks with what is shown of them
abbrev phrase_in : Block → BlockPhrase
phrase_in = fold-Block (BlockKind → Reading) BlockPhrase node_statement node_block

abbrev bare_in : Block → Block
bare_in = fold-Block Stmt Block (λ s. roll-Stmt (node_bare_statement s)) node_bare_block

abbrev printed_in : Block → BlockPrinted
printed_in = fold-Block (List Mark) BlockPrinted node_stmt_printed node_block_printed

phrase_is : (place : Place) (ts : List Stmt) (answer : Option Expr) → phrase_in (block_of place ts answer) ≡ phrase_of place ts answer
phrase_is place ts answer = fold-roll-Block (BlockKind → Reading) BlockPhrase node_statement node_block
    (record { place = place; statements = ts; answer = answer })

bare_is : (place : Place) (ts : List Stmt) (answer : Option Expr) →
    bare_in (block_of place ts answer) ≡ block_of nowhere (map bare_statement ts) (option_map bare answer)
bare_is place ts answer = fold-roll-Block Stmt Block (λ s. roll-Stmt (node_bare_statement s)) node_bare_block
    (record { place = place; statements = ts; answer = answer })

abbrev S : Type 0
S = (t : Stmt) × StatementAnew (statement t) (bare_statement t) (stmt_printed t)

abbrev B : Type 0
B = (b : Block) × BlockAnew phrase_in bare_in (phrase_in b) (bare_in b) (printed_in b)

abbrev stmt_in : S → Stmt
stmt_in s = s.0

abbrev block_in : B → Block
block_in b = b.0

-- one rule of statements
rule : {r : Reading} {ms : List Mark} {Z : Type 0} {reading : Z → Reading} (kind : BlockKind) (target : Stmt-F Stmt Block) (t : Z → Stmt-F Stmt Block)
    → ((z : Z) (ts : List Token) → node_statement (map-Stmt Stmt Block (BlockKind → Reading) BlockPhrase statement phrase_in (t z)) kind ts ≡ reading z ts)
    → ((z : Z) → node_bare_statement (map-Stmt Stmt Block Stmt Block bare_statement bare_in (t z)) ≡ target)
    → Ending (mark.Keyword word.Else) r ms Z reading → Ending (mark.Keyword word.Else) r ms (Alike bare_statement (roll-Stmt target)) (λ z. statement z.0 kind)
rule {r} {ms} {Z} {reading} kind target t p b one =
    turn_ending (λ z. (roll-Stmt (t z), bare_of z)) (λ z ts. ap (λ (s : BlockKind → Reading). s kind ts) (is z) ∙ p z ts) one
  where
    is : (z : Z) → statement (roll-Stmt (t z)) ≡ node_statement (map-Stmt Stmt Block (BlockKind → Reading) BlockPhrase statement phrase_in (t z))
    is z = fold-roll-Stmt (BlockKind → Reading) BlockPhrase node_statement node_block (t z)

    bare_of : (z : Z) → bare_statement (roll-Stmt (t z)) ≡ roll-Stmt target
    bare_of z = fold-roll-Stmt Stmt Block (λ s. roll-Stmt (node_bare_statement s)) node_bare_block (t z) ∙ ap roll-Stmt (b z)

abbrev word_mark : Keyword → Mark
word_mark k = mark.Keyword k

abbrev semicolon : Mark
semicolon = mark.Symbol sign.Semicolon

call_anew : (kind : BlockKind) (f : Name) (es : List Expr)
    → Ending (word_mark word.Else) (node_statement (Stmt-F.Call f es) kind) (node_stmt_printed (Stmt-F.Call f es))
    (Alike bare_statement (roll-Stmt (node_bare_statement (Stmt-F.Call f es)))) (λ z. statement z.0 kind)
call_anew Plain f es = unending never
call_anew Spec f es = unending never
call_anew Impl f es = rule Impl _ (λ z. Stmt-F.Call (name_at f z.0) z.1.0.0) (λ z ts. refl) (λ z i. Stmt-F.Call (name_at f nowhere) (z.1.0.1 i))
    (unending (row (pass (word_mark word.Call) (take (name f) f.place (part (bracketed_anew es) (pass semicolon done))))))

abbrev mapped : Stmt-F S B → Stmt-F Stmt Block
mapped y = map-Stmt S B Stmt Block stmt_in block_in y

stmt_case : (y : Stmt-F S B) → StatementAnew (node_statement (map-Stmt Stmt Block (BlockKind → Reading) BlockPhrase statement phrase_in (mapped y)))
    (roll-Stmt (node_bare_statement (map-Stmt Stmt Block Stmt Block bare_statement bare_in (mapped y))))
    (node_stmt_printed (map-Stmt Stmt Block (List Mark) BlockPrinted stmt_printed printed_in (mapped y)))
stmt_case (Stmt-F.Let x v) = record {
  again = λ kind. rule kind _ (λ z. Stmt-F.Let (name_at x z.0) z.1.0.0) (λ z ts. refl) (λ z i. Stmt-F.Let (name_at x nowhere) (z.1.0.1 i))
      (unending (row (pass (word_mark word.Let) (take (name x) x.place (pass (mark.Symbol sign.Assign) (part (source_anew kind v) (pass semicolon done)))))));
  opens = λ tail. refl;
}
stmt_case (Stmt-F.Assign x is v) = record {
  again = λ kind. rule kind _ (λ z. Stmt-F.Assign (name_at x z.0) z.1.0.0 z.1.1.0.0) (λ z ts. refl)
      (λ z i. Stmt-F.Assign (name_at x nowhere) (z.1.0.1 i) (z.1.1.0.1 i))
      (unending (row (take (name x) x.place (part (row (indices_anew is))
      (pass (mark.Symbol sign.Assign) (part (source_anew kind v) (pass semicolon done)))))));
  opens = λ tail. refl;
}
stmt_case (Stmt-F.If test a b) = record {
  again = λ kind. rule kind _ (λ z. Stmt-F.If z.0.0.0 z.0.1.0 z.1.0) (λ z ts. refl) (λ z i. Stmt-F.If (z.0.0.1.0 i) (z.0.1.1 i) (z.1.1 i))
      (spelled_ending (ap (λ (ms : List Mark). word_mark word.If ∷ ms)
      (sym (append_assoc (printed test) (printed_in a.0).marks (optional_marks word.Else (printed_in b.0)))))
      (part_ending (pass (word_mark word.If) (part (anew test) (last (a.1.again kind)))) (optional_anew word.Else refl kind b.1)));
  opens = λ tail. refl;
}
stmt_case (Stmt-F.For x w n each) = record {
  again = λ kind. rule kind _ (λ z. Stmt-F.For (name_at x z.0) (number_at w z.1.0) (number_at n z.1.1.0) z.1.1.1.0) (λ z ts. refl)
      (λ z i. Stmt-F.For (name_at x nowhere) (number_at w nowhere) (number_at n nowhere) (z.1.1.1.1 i))
      (unending (row (pass (word_mark word.For) (take (name x) x.place
      (pass (mark.Symbol sign.Colon) (take (number w) w.place (pass (word_mark word.Below) (take (number n) n.place (last (each.1.again kind))))))))));
  opens = λ tail. refl;
}
stmt_case (Stmt-F.Call f es) = record { again = λ kind. call_anew kind f es; opens = λ tail. refl }

all_in : (ts : List S) → AllAnew (map stmt_in ts)
all_in [] = tt
all_in (t ∷ ts) = (t.1, all_in ts)

abbrev mapped_block : Block-F S B → Block-F Stmt Block
mapped_block y = map-Block S B Stmt Block stmt_in block_in y

block_case : (y : Block-F S B) → BlockAnew phrase_in bare_in
    (node_block (map-Block Stmt Block (BlockKind → Reading) BlockPhrase statement phrase_in (mapped_block y)))
    (node_bare_block (map-Block Stmt Block Stmt Block bare_statement bare_in (mapped_block y)))
    (node_block_printed (map-Block Stmt Block (List Mark) BlockPrinted stmt_printed printed_in (mapped_block y)))
block_case y = braces_anew phrase_in bare_in (λ place ts. phrase_is place ts None) (λ place ts. bare_is place ts None) y.place
    (map stmt_in y.statements) y.answer (all_in y.statements)

-- each statement is read again
statement_anew : (t : Stmt) → StatementAnew (statement t) (bare_statement t) (stmt_printed t)
statement_anew =
    ind-Stmt (λ t. StatementAnew (statement t) (bare_statement t) (stmt_printed t)) (λ b. BlockAnew phrase_in bare_in (phrase_in b) (bare_in b) (printed_in b))
    (λ x y is.
    subst (λ (s : BlockKind → Reading). StatementAnew s (bare_statement (roll-Stmt x)) (stmt_printed (roll-Stmt x)))
    (sym (fold-roll-Stmt (BlockKind → Reading) BlockPhrase node_statement node_block x))
    (subst (λ (b : Stmt). StatementAnew (node_statement (map-Stmt Stmt Block (BlockKind → Reading) BlockPhrase statement phrase_in x)) b
    (stmt_printed (roll-Stmt x)))
    (sym (fold-roll-Stmt Stmt Block (λ s. roll-Stmt (node_bare_statement s)) node_bare_block x))
    (subst (λ (ms : List Mark). StatementAnew (node_statement (map-Stmt Stmt Block (BlockKind → Reading) BlockPhrase statement phrase_in x))
    (roll-Stmt (node_bare_statement (map-Stmt Stmt Block Stmt Block bare_statement bare_in x))) ms)
    (sym (fold-roll-Stmt (List Mark) BlockPrinted node_stmt_printed node_block_printed x))
    (subst (λ z. StatementAnew (node_statement (map-Stmt Stmt Block (BlockKind → Reading) BlockPhrase statement phrase_in z))
    (roll-Stmt (node_bare_statement (map-Stmt Stmt Block Stmt Block bare_statement bare_in z)))
    (node_stmt_printed (map-Stmt Stmt Block (List Mark) BlockPrinted stmt_printed printed_in z))) is (stmt_case y)))))
    (λ x y is.
    subst (λ (p : BlockPhrase). BlockAnew phrase_in bare_in p (bare_in (roll-Block x)) (printed_in (roll-Block x)))
    (sym (fold-roll-Block (BlockKind → Reading) BlockPhrase node_statement node_block x))
    (subst (λ (b : Block). BlockAnew phrase_in bare_in (node_block (map-Block Stmt Block (BlockKind → Reading) BlockPhrase statement phrase_in x)) b
    (printed_in (roll-Block x)))
    (sym (fold-roll-Block Stmt Block (λ s. roll-Stmt (node_bare_statement s)) node_bare_block x))
    (subst (λ (ms : BlockPrinted). BlockAnew phrase_in bare_in (node_block (map-Block Stmt Block (BlockKind → Reading) BlockPhrase statement phrase_in x))
    (node_bare_block (map-Block Stmt Block Stmt Block bare_statement bare_in x)) ms)
    (sym (fold-roll-Block (List Mark) BlockPrinted node_stmt_printed node_block_printed x))
    (subst (λ z. BlockAnew phrase_in bare_in (node_block (map-Block Stmt Block (BlockKind → Reading) BlockPhrase statement phrase_in z))
    (node_bare_block (map-Block Stmt Block Stmt Block bare_statement bare_in z))
    (node_block_printed (map-Block Stmt Block (List Mark) BlockPrinted stmt_printed printed_in z))) is (block_case y)))))

statements_anew : (ts : List Stmt) → AllAnew ts
statements_anew [] = tt
statements_anew (t ∷ ts) = (statement_anew t, statements_anew ts)

-- each block is read again
pub block_anew : (b : Block) → BlockAnew block_phrase bare_block (block_phrase b) (bare_block b) (block_printed b)
block_anew b = braces_anew block_phrase bare_block (λ place ts. refl) (λ place ts. refl) b.place b.statements b.answer (statements_anew b.statements)

-- each block with an answer is read again
pub answering_again : (kind : BlockKind) (b : Block) → Single (with_answer kind (block_phrase b) b.answer) (block_printed b).marks
    (Alike bare_block (bare_block b)) (λ z. with_answer kind (block_phrase z.0) (block_phrase z.0).answer)
answering_again kind b = answering_anew kind b.place b.statements b.answer (statements_anew b.statements)
