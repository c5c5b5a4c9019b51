-- What derives from tokens keeps its kinds.
use Rattle.std.proofs.Common.{◌≡◌, Bool, true, false, ◌&&◌, if◌then◌else◌, List, [], ◌∷◌, map, Option, Some, None, refl, sym, subst}
use Rattle.std.proofs.lemmas.Bool.{and_from as both_of}
use Rattle.std.specs.List.{list_all}
use Rattle.ygg_base.specs.declared.token.Keyword.{Keyword}
use Rattle.ygg_base.specs.declared.token.Keyword.TheVariants as word
use Rattle.ygg_base.specs.declared.token.Symbol.TheVariants as sign
use Rattle.ygg_base.specs.declared.token.Mark.TheVariants as mark
use Rattle.ygg_base.specs.declared.token.Token.{Token}
use Rattle.ygg_syntax.specs.declared.grammar.BlockKind.{BlockKind}
use Rattle.ygg_syntax.specs.declared.grammar.BlockKind.TheVariants.{Plain, Spec, Impl}
use Rattle.ygg_syntax.specs.declared.grammar.Sort.TheVariants as sorts
use Rattle.ygg_syntax.specs.declared.tree.Place.{Place}
use Rattle.ygg_syntax.specs.declared.tree.TypeText.{TypeText}
use Rattle.ygg_syntax.specs.declared.tree.Expr.{Expr}
use Rattle.ygg_syntax.specs.declared.tree.Source.{Source}
use Rattle.ygg_syntax.specs.declared.tree.Source.TheVariants as source
use Rattle.ygg_syntax.specs.declared.tree.Stmt.{Stmt, roll-Stmt, map-Stmt}
use Rattle.ygg_syntax.specs.declared.tree.Block.{Block, roll-Block, map-Block, fold-Block}
use Rattle.ygg_syntax.specs.declared.tree.Stmt.TheOpen.{Stmt-F, Block-F}
use Rattle.ygg_syntax.specs.declared.tree.Stmt.TheFolds.{ind-Stmt, fold-roll-Stmt, fold-roll-Block}
use Rattle.ygg_syntax.specs.declared.tree.Operation.{Operation}
use Rattle.ygg_syntax.specs.declared.tree.Tick.{Tick}
use Rattle.ygg_syntax.specs.declared.tree.Layer.{Layer}
use Rattle.ygg_syntax.specs.declared.tree.File.{File}
use Rattle.ygg_syntax.specs.Reading.{Reading, starts, passes, takes, in_turn}
use Rattle.ygg_syntax.specs.Expressions.{keyword, symbol, named, numbered, expr}
use Rattle.ygg_syntax.specs.Blocks.{
  bracketed,
  call_in,
  indices_of,
  source_in,
  BlockPhrase,
  statements_in,
  without_answer,
  with_answer,
  is_nowhere,
  nothing_in,
  is_unwritten,
  optional_block,
  node_statement,
  node_block,
  statement,
  block_phrase,
  block,
  answering,
  optional,
}
use Rattle.ygg_syntax.specs.Files.{
  variable,
  definition,
  on_crash,
  operation_blocks,
  operation,
  tick,
  crash_block,
  layer,
  layers,
  whole_file,
  Derives,
  any_declared,
  type_in,
  disk_text,
}
use Rattle.ygg_meaning_laws.proofs.Tests.{right as second_of}
use Rattle.ygg_meaning_laws.specs.Kinds.{
  may_call,
  source_keeps,
  all_keep,
  node_keeps,
  node_all_keep,
  stmt_keeps,
  keeps,
  returns_declared,
  on_crash_keeps,
  operation_keeps,
  tick_keeps,
  layer_keeps,
  file_keeps,
}

-- something is read from some tokens
pub record IsRead (r : Reading) : Type 0 where
  pub from : List Token
  pub rest : List Token
  pub is : r from ≡ Some rest

-- the first of what is read in turn, and the others
pub record BothRead (r : Reading) (rs : List Reading) : Type 0 where
  pub first : IsRead r
  pub others : IsRead (in_turn rs)

pub split : (r : Reading) (rs : List Reading) → IsRead (in_turn (r ∷ rs)) → BothRead r rs
unfolding in_turn
split r rs h = cases (r h.from) refl h.is
  where
    cases : (o : Option (List Token)) → r h.from ≡ o → elim o as (λ o. Option (List Token)) [ None ↦ None | Some s ↦ in_turn rs s ] ≡ Some h.rest →
        BothRead r rs
    cases None e k = absurd (cc)
    cases (Some s) e k = record { first = record { from = h.from; rest = s; is = e }; others = record { from = s; rest = h.rest; is = k } }

pub first_read : (r : Reading) (rs : List Reading) → IsRead (in_turn (r ∷ rs)) → IsRead r
first_read r rs h = (split r rs h).first

pub others_read : (r : Reading) (rs : List Reading) → IsRead (in_turn (r ∷ rs)) → IsRead (in_turn rs)
others_read r rs h = (split r rs h).others

-- what is impossible isn't read
unread : {A : Type 0} → IsRead (λ from. None) → A
unread h = let e = h.is in absurd (cc)

-- a right side keeps its kind
source_kept : (kind : BlockKind) (s : Source) → IsRead (source_in kind s) → source_keeps kind s ≡ true
source_kept kind (source.Value e) h = refl
source_kept Plain (source.Choose at) h = let e = h.is in absurd (cc)
source_kept Spec (source.Choose at) h = refl
source_kept Impl (source.Choose at) h = let e = h.is in absurd (cc)
source_kept Plain (source.Call at f es) h = let e = h.is in absurd (cc)
source_kept Spec (source.Call at f es) h = let e = h.is in absurd (cc)
source_kept Impl (source.Call at f es) h = refl

-- a statement that is read in a block of a kind keeps it
pub record Keeping (read : BlockKind → Reading) (k : BlockKind → Bool) : Type 0 where
  pub keeps : (kind : BlockKind) → IsRead (read kind) → k kind ≡ true

-- a block that is read, or that isn't written, keeps its kind
pub record KeepingAll (p : BlockPhrase) (k : BlockKind → Bool) : Type 0 where
  pub keeps : (kind : BlockKind) → IsRead (statements_in kind p) → k kind ≡ true
  pub empty : (kind : BlockKind) → is_unwritten p ≡ true → k kind ≡ true

-- the statements of a block without an answer
without_read : (kind : BlockKind) (p : BlockPhrase) (answer : Option Expr) → IsRead (without_answer kind p answer) → IsRead (statements_in kind p)
without_read kind p None h = first_read (statements_in kind p) (symbol sign.BraceClose ∷ [])
    (others_read (takes (mark.Symbol sign.BraceOpen) p.place) (statements_in kind p ∷ symbol sign.BraceClose ∷ []) h)
without_read kind p (Some e) h = let e = h.is in absurd (cc)

with_read : (kind : BlockKind) (p : BlockPhrase) (answer : Option Expr) → IsRead (with_answer kind p answer) → IsRead (statements_in kind p)
with_read kind p None h = let e = h.is in absurd (cc)
with_read kind p (Some e) h =
    first_read (statements_in kind p) (keyword word.Return ∷ expr e ∷ symbol sign.Semicolon ∷ symbol sign.BraceClose ∷ [])
    (others_read (takes (mark.Symbol sign.BraceOpen) p.place)
    (statements_in kind p ∷ keyword word.Return ∷ expr e ∷ symbol sign.Semicolon ∷ symbol sign.BraceClose ∷ []) h)

block_kept : (kind : BlockKind) (p : BlockPhrase) (answer : Option Expr) (k : BlockKind → Bool) → KeepingAll p k →
    IsRead (without_answer kind p answer) → k kind ≡ true
block_kept kind p answer k g h = g.keeps kind (without_read kind p answer h)

-- a block that may be left out
optional_kept : (w : Keyword) (kind : BlockKind) (p : BlockPhrase) (k : BlockKind → Bool) → KeepingAll p k → IsRead (optional_block w kind p) → k kind ≡ true
optional_kept w kind p k g h = cases (starts (mark.Keyword w) h.from) (is_unwritten p) refl h.is
  where
    cases : (s u : Bool) → is_unwritten p ≡ u → (if s then in_turn (keyword w ∷ without_answer kind p p.answer ∷ []) h.from else if u then Some h.from
        else None) ≡ Some h.rest → k kind ≡ true
    cases true u i e =
        block_kept kind p p.answer k g
        (first_read (without_answer kind p p.answer) [] (others_read (keyword w) (without_answer kind p p.answer ∷ [])
        (record { from = h.from; rest = h.rest; is = e })))
    cases false true i e = g.empty kind i
    cases false false i e = absurd (cc)

abbrev Read : Type 0
Read = BlockKind → Reading

abbrev Keep : Type 0
Keep = BlockKind → Bool

abbrev K' : Block → BlockKind → Bool
K' = fold-Block Keep Keep node_keeps node_all_keep

abbrev P' : Block → BlockPhrase
P' = fold-Block Read BlockPhrase node_statement node_block

abbrev S : Type 0
S = (s : Stmt) × Keeping (statement s) (stmt_keeps s)

abbrev B : Type 0
B = (b : Block) × KeepingAll (P' b) (K' b)

stmt_case : (y : Stmt-F S B) →
    Keeping (node_statement (map-Stmt Stmt Block Read BlockPhrase statement P' (map-Stmt S B Stmt Block (λ e. e.0) (λ e. e.0) y)))
    (node_keeps (map-Stmt Stmt Block Keep Keep stmt_keeps K' (map-Stmt S B Stmt Block (λ e. e.0) (λ e. e.0) y)))
stmt_case (Stmt-F.Let x s) = record {
  keeps = λ kind h.
      let a = others_read (keyword word.Let) _ h in
      let b = others_read (named x) _ a in
      let c = others_read (symbol sign.Assign) _ b in
      source_kept kind s (first_read (source_in kind s) _ c);
}
stmt_case (Stmt-F.Assign x is s) = record {
  keeps = λ kind h.
      let a = others_read (named x) _ h in
      let b = others_read (in_turn (indices_of is)) _ a in
      let c = others_read (symbol sign.Assign) _ b in
      source_kept kind s (first_read (source_in kind s) _ c);
}
stmt_case (Stmt-F.If test first second) = record {
  keeps = λ kind h.
      let a = others_read (keyword word.If) _ h in
      let b = others_read (expr test) _ a in
      both_of (K' first.0 kind) (K' second.0 kind)
      (block_kept kind (P' first.0) (P' first.0).answer (K' first.0) first.1 (first_read (without_answer kind (P' first.0) (P' first.0).answer) _ b))
      (optional_kept word.Else kind (P' second.0) (K' second.0) second.1
      (first_read (optional_block word.Else kind (P' second.0)) [] (others_read (without_answer kind (P' first.0) (P' first.0).answer) _ b)));
}
stmt_case (Stmt-F.For x w n each) = record {
  keeps = λ kind h.
      let a = others_read (keyword word.For) _ h in
      let b = others_read (named x) _ a in
      let c = others_read (symbol sign.Colon) _ b in
      let d = others_read (numbered w) _ c in
      let e = others_read (keyword word.Below) _ d in
      let f = others_read (numbered n) _ e in
      block_kept kind (P' each.0) (P' each.0).answer (K' each.0) each.1 (first_read (without_answer kind (P' each.0) (P' each.0).answer) [] f);
}
stmt_case (Stmt-F.Call f es) = record { keeps = called }
  where
    called : (kind : BlockKind) → IsRead (call_in kind (keyword word.Call ∷ named f ∷ bracketed es ∷ symbol sign.Semicolon ∷ [])) → may_call kind ≡ true
    called Plain h = let e = h.is in absurd (cc)
    called Spec h = let e = h.is in absurd (cc)
    called Impl h = refl

-- statements that are read in turn
abbrev in_kind : BlockKind → List Stmt → List Reading
in_kind kind ss = map (λ (s : BlockKind → Reading). s kind) (map statement ss)

one_more_kept : (s : Stmt) (ss : List Stmt) → Keeping (statement s) (stmt_keeps s) →
    ((kind : BlockKind) → IsRead (in_turn (in_kind kind ss)) → all_keep (map stmt_keeps ss) kind ≡ true)
    → (kind : BlockKind) → IsRead (in_turn (in_kind kind (s ∷ ss))) → all_keep (map stmt_keeps (s ∷ ss)) kind ≡ true
one_more_kept s ss first rest kind h =
    both_of (stmt_keeps s kind) (all_keep (map stmt_keeps ss) kind) (first.keeps kind (first_read (statement s kind) (in_kind kind ss) h))
    (rest kind (others_read (statement s kind) (in_kind kind ss) h))

turns_case : (ss : List S) (kind : BlockKind) → IsRead (in_turn (in_kind kind (map (λ e. e.0) ss))) → all_keep (map stmt_keeps (map (λ e. e.0) ss)) kind ≡ true
turns_case [] kind h = refl
turns_case (s ∷ ss) kind h = one_more_kept s.0 (map (λ e. e.0) ss) s.1 (turns_case ss) kind h

-- a block that isn't written has no statements
nothing_kept : (ss : List Stmt) (answer : Option Expr) (kind : BlockKind) → nothing_in (map statement ss) answer ≡ true →
    all_keep (map stmt_keeps ss) kind ≡ true
nothing_kept [] answer kind h = refl
nothing_kept (s ∷ ss) answer kind h = absurd (cc)

block_case : (y : Block-F S B) →
    KeepingAll (node_block (map-Block Stmt Block Read BlockPhrase statement P' (map-Block S B Stmt Block (λ e. e.0) (λ e. e.0) y)))
    (node_all_keep (map-Block Stmt Block Keep Keep stmt_keeps K' (map-Block S B Stmt Block (λ e. e.0) (λ e. e.0) y)))
block_case y = record {
  keeps = λ kind h. turns_case y.statements kind h;
  empty = λ kind h. nothing_kept (map (λ e. e.0) y.statements) y.answer kind (second_of (is_nowhere y.place) _ h);
}

all_kept : (s : Stmt) → Keeping (statement s) (stmt_keeps s)
all_kept =
    ind-Stmt (λ s. Keeping (statement s) (stmt_keeps s)) (λ b. KeepingAll (P' b) (K' b))
    (λ x y is.
    subst (λ r. Keeping r (stmt_keeps (roll-Stmt x))) (sym (fold-roll-Stmt Read BlockPhrase node_statement node_block x))
    (subst (λ k. Keeping (node_statement (map-Stmt Stmt Block Read BlockPhrase statement P' x)) k) (sym (fold-roll-Stmt Keep Keep node_keeps node_all_keep x))
    (subst (λ z. Keeping (node_statement (map-Stmt Stmt Block Read BlockPhrase statement P' z))
    (node_keeps (map-Stmt Stmt Block Keep Keep stmt_keeps K' z))) is (stmt_case y))))
    (λ x y is.
    subst (λ r. KeepingAll r (K' (roll-Block x))) (sym (fold-roll-Block Read BlockPhrase node_statement node_block x))
    (subst (λ k. KeepingAll (node_block (map-Block Stmt Block Read BlockPhrase statement P' x)) k) (sym (fold-roll-Block Keep Keep node_keeps node_all_keep x))
    (subst (λ z. KeepingAll (node_block (map-Block Stmt Block Read BlockPhrase statement P' z))
    (node_all_keep (map-Block Stmt Block Keep Keep stmt_keeps K' z))) is (block_case y))))

statements_kept : (ss : List Stmt) (kind : BlockKind) → IsRead (in_turn (in_kind kind ss)) → all_keep (map stmt_keeps ss) kind ≡ true
statements_kept [] kind h = refl
statements_kept (s ∷ ss) kind h = one_more_kept s ss (all_kept s) (statements_kept ss) kind h

-- a block on its own
keeping : (b : Block) → KeepingAll (block_phrase b) (λ kind. keeps kind b)
keeping b = record {
  keeps = λ kind h. statements_kept b.statements kind h;
  empty = λ kind h. nothing_kept b.statements b.answer kind (second_of (is_nowhere b.place) _ h);
}

plain_kept : (kind : BlockKind) (b : Block) → IsRead (block kind b) → keeps kind b ≡ true
plain_kept kind b h = block_kept kind (block_phrase b) b.answer (λ kind. keeps kind b) (keeping b) h

answering_kept : (kind : BlockKind) (b : Block) → IsRead (answering kind b) → keeps kind b ≡ true
answering_kept kind b h = (keeping b).keeps kind (with_read kind (block_phrase b) b.answer h)

written_kept : (w : Keyword) (kind : BlockKind) (b : Block) → IsRead (optional w kind b) → keeps kind b ≡ true
written_kept w kind b h = optional_kept w kind (block_phrase b) (λ kind. keeps kind b) (keeping b) h

-- a block returns what is declared
silent : (kind : BlockKind) (b : Block) → IsRead (block kind b) → returns_declared None b.answer ≡ true
silent kind b h = cases b.answer h
  where
    cases : (answer : Option Expr) → IsRead (without_answer kind (block_phrase b) answer) → returns_declared None answer ≡ true
    cases None h = refl
    cases (Some e) h = let e = h.is in absurd (cc)

telling : (kind : BlockKind) (b : Block) (t : TypeText) → IsRead (answering kind b) → returns_declared (Some t) b.answer ≡ true
telling kind b t h = cases b.answer h
  where
    cases : (answer : Option Expr) → IsRead (with_answer kind (block_phrase b) answer) → returns_declared (Some t) answer ≡ true
    cases None h = let e = h.is in absurd (cc)
    cases (Some e) h = refl

on_crash_kept : (b : Option Block) → IsRead (on_crash b) → on_crash_keeps b ≡ true
on_crash_kept None h = refl
on_crash_kept (Some b) h = plain_kept Spec b (first_read (block Spec b) []
    (others_read (keyword word.Crash) (block Spec b ∷ []) (others_read (keyword word.On) (keyword word.Crash ∷ block Spec b ∷ []) h)))

-- an operation
blocks_kept : (o : Operation) (answer : Option TypeText) → IsRead (operation_blocks o answer)
    → (keeps Spec o.spec && returns_declared answer o.spec.answer && on_crash_keeps o.on_crash && keeps Impl o.implementation
    && returns_declared answer o.implementation.answer) ≡ true
blocks_kept o None h =
    let a = others_read (keyword word.Spec) _ h in
    let spec = first_read (block Spec o.spec) _ a in
    let b = others_read (block Spec o.spec) _ a in
    let c = others_read (on_crash o.on_crash) _ b in
    let impl = first_read (block Impl o.implementation) [] (others_read (keyword word.Impl) (block Impl o.implementation ∷ []) c) in
    both_of (keeps Spec o.spec && returns_declared None o.spec.answer && on_crash_keeps o.on_crash && keeps Impl o.implementation)
    (returns_declared None o.implementation.answer)
    (both_of (keeps Spec o.spec && returns_declared None o.spec.answer && on_crash_keeps o.on_crash) (keeps Impl o.implementation)
    (both_of (keeps Spec o.spec && returns_declared None o.spec.answer) (on_crash_keeps o.on_crash)
    (both_of (keeps Spec o.spec) (returns_declared None o.spec.answer) (plain_kept Spec o.spec spec) (silent Spec o.spec spec))
    (on_crash_kept o.on_crash (first_read (on_crash o.on_crash) _ b))) (plain_kept Impl o.implementation impl)) (silent Impl o.implementation impl)
blocks_kept o (Some t) h =
    let a = others_read (keyword word.Spec) _ (others_read (type_in sorts.Small t) _ (others_read (symbol sign.Arrow) _ h)) in
    let spec = first_read (answering Spec o.spec) _ a in
    let b = others_read (answering Spec o.spec) _ a in
    let c = others_read (on_crash o.on_crash) _ b in
    let impl = first_read (answering Impl o.implementation) [] (others_read (keyword word.Impl) (answering Impl o.implementation ∷ []) c) in
    both_of (keeps Spec o.spec && returns_declared (Some t) o.spec.answer && on_crash_keeps o.on_crash && keeps Impl o.implementation)
    (returns_declared (Some t) o.implementation.answer)
    (both_of (keeps Spec o.spec && returns_declared (Some t) o.spec.answer && on_crash_keeps o.on_crash) (keeps Impl o.implementation)
    (both_of (keeps Spec o.spec && returns_declared (Some t) o.spec.answer) (on_crash_keeps o.on_crash)
    (both_of (keeps Spec o.spec) (returns_declared (Some t) o.spec.answer) (answering_kept Spec o.spec spec) (telling Spec o.spec t spec))
    (on_crash_kept o.on_crash (first_read (on_crash o.on_crash) _ b))) (answering_kept Impl o.implementation impl)) (telling Impl o.implementation t impl)

operation_kept : (o : Operation) → IsRead (operation o) → operation_keeps o ≡ true
operation_kept o h =
    let a = others_read (keyword word.Op) _ h in
    let b = others_read (named o.name) _ a in
    let c = others_read (symbol sign.RoundOpen) _ b in
    let d = others_read (any_declared sorts.Small o.arguments) _ c in
    let e = others_read (symbol sign.RoundClose) (operation_blocks o o.answer ∷ []) d in
    blocks_kept o o.answer (first_read (operation_blocks o o.answer) [] e)

tick_kept : (t : Tick) → IsRead (tick t) → tick_keeps t ≡ true
tick_kept t h = plain_kept Impl t.body (first_read (block Impl t.body) []
    (others_read (named t.name) (block Impl t.body ∷ []) (others_read (keyword word.Tick) (named t.name ∷ block Impl t.body ∷ []) h)))

-- each of some things
each_kept : {X : Type 0} (r : X → Reading) (k : X → Bool) → ((x : X) → IsRead (r x) → k x ≡ true) → (xs : List X) → IsRead (in_turn (map r xs)) →
    list_all k xs ≡ true
each_kept r k one [] h = refl
each_kept r k one (x ∷ xs) h = both_of (k x) (list_all k xs) (one x (first_read (r x) (map r xs) h)) (each_kept r k one xs (others_read (r x) (map r xs) h))

crash_kept : (at : Place) (b : Block) → IsRead (crash_block at b) → keeps Spec b ≡ true
crash_kept at b h = cases (starts (mark.Keyword word.Crash) h.from) (is_nowhere at) (is_unwritten (block_phrase b)) refl h.is
  where
    cases : (s n u : Bool) → is_unwritten (block_phrase b) ≡ u →
        (if s then in_turn (takes (mark.Keyword word.Crash) at ∷ block Spec b ∷ []) h.from else if n && u then Some h.from else None) ≡ Some h.rest →
        keeps Spec b ≡ true
    cases true n u i e = plain_kept Spec b (first_read (block Spec b) []
        (others_read (takes (mark.Keyword word.Crash) at) (block Spec b ∷ []) (record { from = h.from; rest = h.rest; is = e })))
    cases false true true i e = (keeping b).empty Spec i
    cases false true false i e = absurd (cc)
    cases false false u i e = absurd (cc)

layer_kept : (l : Layer) → IsRead (layer l) → layer_keeps l ≡ true
layer_kept l h =
    let a = others_read (symbol sign.BraceOpen) _ (others_read (named l.name) _ (others_read (takes (mark.Keyword word.Layer) l.place) _ h)) in
    let b = others_read (in_turn (map (variable word.State) l.state)) _ a in
    let c = others_read (optional word.Start Plain l.start) _ b in
    let d = others_read (in_turn (map (variable word.Memory) l.memory)) _ c in
    let e = others_read (optional word.Format Impl l.format) _ d in
    let f = others_read (in_turn (map operation l.operations)) _ e in
    let g = others_read (crash_block l.crash_place l.crash) _ f in
    let i = others_read (in_turn (map tick l.ticks)) _ g in
    let formatted = keeps Plain l.start && keeps Impl l.format in
    let operated = formatted && list_all operation_keeps l.operations in
    let crashed = operated && keeps Spec l.crash in
    let ticked = crashed && list_all tick_keeps l.ticks in
    both_of ticked (keeps Impl l.recover)
    (both_of crashed (list_all tick_keeps l.ticks)
    (both_of operated (keeps Spec l.crash)
    (both_of formatted (list_all operation_keeps l.operations)
    (both_of (keeps Plain l.start) (keeps Impl l.format) (written_kept word.Start Plain l.start (first_read (optional word.Start Plain l.start) _ b))
    (written_kept word.Format Impl l.format (first_read (optional word.Format Impl l.format) _ d)))
    (each_kept operation operation_keeps operation_kept l.operations (first_read (in_turn (map operation l.operations)) _ e)))
    (crash_kept l.crash_place l.crash (first_read (crash_block l.crash_place l.crash) _ f)))
    (each_kept tick tick_keeps tick_kept l.ticks (first_read (in_turn (map tick l.ticks)) _ g)))
    (written_kept word.Recover Impl l.recover (first_read (optional word.Recover Impl l.recover) _ i))

layers_kept : (ls : List Layer) → IsRead (layers ls) → list_all layer_keeps ls ≡ true
layers_kept [] h = refl
layers_kept (l ∷ ls) h = each_kept layer layer_keeps layer_kept (l ∷ ls) h

-- a file that derives from some tokens
pub file_kept : (tokens : List Token) (f : File) → Derives tokens f → file_keeps f ≡ true
file_kept tokens f d =
    let h : IsRead (whole_file f) = record { from = tokens; rest = []; is = d.derives } in
    let a = others_read (symbol sign.Semicolon) _ (others_read (passes (mark.Num 1)) _ (others_read (keyword word.Yggdrasil) _ h)) in
    let b = others_read (disk_text f.disk) _ a in
    let c = others_read (in_turn (map definition f.defs)) (layers f.layers ∷ []) b in
    layers_kept f.layers (first_read (layers f.layers) [] c)
