-- What derives from statements and blocks is taken by pending ones.
use Rattle.std.proofs.Common.{◌≡◌, ℕ, Bool, true, false, if◌then◌else◌, List, [], ◌∷◌, ◌++◌, map, Option, Some, None, refl, sym, ap, ◌∙◌, subst}
use Rattle.ygg_base.specs.declared.token.Keyword.{Keyword}
use Rattle.ygg_base.specs.declared.token.Keyword.TheVariants as word
use Rattle.ygg_base.specs.declared.token.Symbol.TheVariants as sign
use Rattle.ygg_base.specs.declared.token.Mark.{Mark}
use Rattle.ygg_base.specs.declared.token.Mark.TheVariants as mark
use Rattle.ygg_base.specs.declared.token.Token.{Token}
use Rattle.ygg_syntax.specs.declared.grammar.BlockKind.{BlockKind}
use Rattle.ygg_syntax.specs.declared.grammar.BlockKind.TheVariants.{Plain, Spec, Impl}
use Rattle.ygg_syntax.specs.declared.tree.Place.{Place}
use Rattle.ygg_syntax.specs.declared.tree.Index.{Index}
use Rattle.ygg_syntax.specs.declared.tree.Expr.{Expr}
use Rattle.ygg_syntax.specs.declared.tree.Stmt.{Stmt, map-Stmt}
use Rattle.ygg_syntax.specs.declared.tree.Block.{Block, map-Block, fold-Block}
use Rattle.ygg_syntax.specs.declared.tree.Stmt.TheOpen.{Stmt-F, Block-F}
use Rattle.ygg_syntax.specs.declared.tree.Stmt.TheFolds.{ind-Stmt, fold-roll-Stmt, fold-roll-Block}
use Rattle.ygg_syntax.specs.Reading.{Reading, token, same_mark, starts, passes, takes, in_turn}
use Rattle.ygg_syntax.specs.Expressions.{expr, keyword, symbol, named, numbered}
use Rattle.ygg_syntax.specs.Blocks.{
  BlockPhrase,
  bracketed,
  source_in,
  indices_of,
  statements_in,
  without_answer,
  with_answer,
  is_unwritten,
  optional_block,
  node_statement,
  node_block,
  statement,
  block_phrase,
}
use Rattle.ygg_syntax.specs.Pending.{
  Pending,
  Part,
  name,
  number,
  expression,
  indices,
  rest_of_arguments,
  right_side,
  statements,
  block,
  answering,
  perhaps,
  else_block,
  beginning,
  rest_of,
  sign_of,
  word_of,
  outcome,
}
use Rattle.ygg_read.proofs.Marks.{passed, took}
use Rattle.ygg_read.proofs.Stopped.{goes_token, dropped_indices}
use Rattle.ygg_read.proofs.ExpressionBegins.{begins_index}
use Rattle.ygg_read.proofs.TakenWhole.{split, empty, Runs, done, next_mark, next_number, next_name}
use Rattle.ygg_read.proofs.Sources.{expression_goes, next_call, next_source}
use Rattle.ygg_read.proofs.ClaimParts.{Enters, passing, Chooses, chosen}

begins_let : (kind : BlockKind) (at : Place) (rest : List Token) (qs : List Pending) → outcome (statements kind ∷ qs) (token (mark.Keyword word.Let) at ∷ rest)
    ≡ outcome (name ∷ sign_of sign.Assign ∷ right_side kind ∷ sign_of sign.Semicolon ∷ statements kind ∷ qs) rest
unfolding outcome
begins_let kind at rest qs = refl

begins_assign : (kind : BlockKind) (text : List ℕ) (at : Place) (rest : List Token) (qs : List Pending) →
    outcome (statements kind ∷ qs) (token (mark.Name text) at ∷ rest)
    ≡ outcome (indices ∷ sign_of sign.Assign ∷ right_side kind ∷ sign_of sign.Semicolon ∷ statements kind ∷ qs) rest
unfolding outcome
begins_assign kind text at rest qs = refl

begins_if : (kind : BlockKind) (at : Place) (rest : List Token) (qs : List Pending) → outcome (statements kind ∷ qs) (token (mark.Keyword word.If) at ∷ rest)
    ≡ outcome (expression ∷ block kind ∷ perhaps (else_block kind) ∷ statements kind ∷ qs) rest
unfolding outcome
begins_if kind at rest qs = refl

begins_for : (kind : BlockKind) (at : Place) (rest : List Token) (qs : List Pending) → outcome (statements kind ∷ qs) (token (mark.Keyword word.For) at ∷ rest)
    ≡ outcome (name ∷ sign_of sign.Colon ∷ number ∷ word_of word.Below ∷ number ∷ block kind ∷ statements kind ∷ qs) rest
unfolding outcome
begins_for kind at rest qs = refl

begins_call : (at : Place) (rest : List Token) (qs : List Pending) → outcome (statements Impl ∷ qs) (token (mark.Keyword word.Call) at ∷ rest)
    ≡ outcome (name ∷ sign_of sign.RoundOpen ∷ rest_of_arguments ∷ sign_of sign.Semicolon ∷ statements Impl ∷ qs) rest
unfolding outcome
begins_call at rest qs = refl

begins_block : (kind : BlockKind) (at : Place) (rest : List Token) (qs : List Pending) →
    outcome (block kind ∷ qs) (token (mark.Symbol sign.BraceOpen) at ∷ rest) ≡ outcome (statements kind ∷ sign_of sign.BraceClose ∷ qs) rest
unfolding outcome
begins_block kind at rest qs = refl

begins_answering : (kind : BlockKind) (at : Place) (rest : List Token) (qs : List Pending) →
    outcome (answering kind ∷ qs) (token (mark.Symbol sign.BraceOpen) at ∷ rest)
    ≡ outcome (statements kind ∷ word_of word.Return ∷ expression ∷ sign_of sign.Semicolon ∷ sign_of sign.BraceClose ∷ qs) rest
unfolding outcome
begins_answering kind at rest qs = refl

-- no statement comes
ends_close : (kind : BlockKind) (at : Place) (rest : List Token) (qs : List Pending) →
    outcome (statements kind ∷ qs) (token (mark.Symbol sign.BraceClose) at ∷ rest) ≡ outcome qs (token (mark.Symbol sign.BraceClose) at ∷ rest)
unfolding outcome
ends_close Plain at rest qs = refl
ends_close Spec at rest qs = refl
ends_close Impl at rest qs = refl

ends_return : (kind : BlockKind) (at : Place) (rest : List Token) (qs : List Pending) →
    outcome (statements kind ∷ qs) (token (mark.Keyword word.Return) at ∷ rest) ≡ outcome qs (token (mark.Keyword word.Return) at ∷ rest)
unfolding outcome
ends_return Plain at rest qs = refl
ends_return Spec at rest qs = refl
ends_return Impl at rest qs = refl

-- pending statements take what a statement reads, and more may come
pub record StatementRuns (s : BlockKind → Reading) : Type 0 where
  pub runs : (kind : BlockKind) (from rest : List Token) → s kind from ≡ Some rest → (ps : List Pending) →
      outcome (statements kind ∷ ps) from ≡ outcome (statements kind ∷ ps) rest

-- a pending block takes what a block reads
pub record BlockRuns (b : BlockPhrase) : Type 0 where
  pub runs : (kind : BlockKind) (from rest : List Token) → without_answer kind b b.answer from ≡ Some rest → (ps : List Pending) →
      outcome (block kind ∷ ps) from ≡ outcome ps rest

-- a block, and others after it
pub next_block : (kind : BlockKind) (b : BlockPhrase) → BlockRuns b → {rs : List Reading} {qs : List Pending} → Runs rs qs →
    Runs (without_answer kind b b.answer ∷ rs) (block kind ∷ qs)
next_block kind b c {rs} {qs} r = record {
  runs = λ from rest h ps. let s = split (without_answer kind b b.answer) rs from rest h in c.runs kind from s.mid s.first (qs ++ ps)
      ∙ r.runs s.mid rest s.others ps;
}

-- the brace that a block begins with
opens_block : (kind : BlockKind) (b : BlockPhrase) (answer : Option Expr) (from rest : List Token) → without_answer kind b answer from ≡ Some rest →
    (m : Mark) → same_mark m (mark.Symbol sign.BraceOpen) ≡ false → starts m from ≡ false
opens_block kind b (Some e) from rest h m other = absurd (cc)
opens_block kind b None from rest h m other =
    let s = split (takes (mark.Symbol sign.BraceOpen) b.place) (statements_in kind b ∷ symbol sign.BraceClose ∷ []) from rest h in
    ap (starts m) (took (mark.Symbol sign.BraceOpen) b.place from s.mid s.first) ∙ other

-- a block that may be left out
pub optional_chooses : (p : Part) (k : Keyword) (kind : BlockKind) (b : BlockPhrase) → beginning p ≡ mark.Keyword k → rest_of p ≡ block kind ∷ [] →
    BlockRuns b → Chooses (optional_block k kind b) p
optional_chooses p k kind b first others c = record {
  chooses = λ from rest h. record {
    there = λ e. (subst (λ m. Enters (in_turn (passes m ∷ without_answer kind b b.answer ∷ [])) p) first
        (passing p (subst (Runs (without_answer kind b b.answer ∷ [])) (sym others) (next_block kind b c done)))).enters from rest
        (written (starts (mark.Keyword k) from) (ap (λ m. starts m from) (sym first) ∙ e) from rest h);
    absent = λ e. unwritten (starts (mark.Keyword k) from) (is_unwritten b) (ap (λ m. starts m from) (sym first) ∙ e) from rest h;
  };
}
  where
    written : (s : Bool) → s ≡ true → (from rest : List Token)
        → (if s then in_turn (keyword k ∷ without_answer kind b b.answer ∷ []) from else if is_unwritten b then Some from else None) ≡ Some rest →
        in_turn (keyword k ∷ without_answer kind b b.answer ∷ []) from ≡ Some rest
    written true e from rest h = h
    written false e from rest h = absurd (cc)

    unwritten : (s u : Bool) → s ≡ false → (from rest : List Token)
        → (if s then in_turn (keyword k ∷ without_answer kind b b.answer ∷ []) from else if u then Some from else None) ≡ Some rest → from ≡ rest
    unwritten true u e from rest h = absurd (cc)
    unwritten false true e from rest h = cc
    unwritten false false e from rest h = absurd (cc)

-- indices, and more may come
indices_run : (is : List Index) (from rest : List Token) → in_turn (indices_of is) from ≡ Some rest → (ps : List Pending) →
    outcome (indices ∷ ps) from ≡ outcome (indices ∷ ps) rest
indices_run [] from rest h ps = ap (outcome (indices ∷ ps)) (empty from rest h)
indices_run (i ∷ is) from rest h ps =
    let s = split (takes (mark.Symbol sign.SquareOpen) i.bracket) (expr i.at ∷ symbol sign.SquareClose ∷ indices_of is) from rest h in
    let e = split (expr i.at) (symbol sign.SquareClose ∷ indices_of is) s.mid rest s.others in
    let t = split (symbol sign.SquareClose) (indices_of is) e.mid rest e.others in
    let k = passed (mark.Symbol sign.SquareClose) e.mid t.mid t.first in
    ap (outcome (indices ∷ ps)) (took (mark.Symbol sign.SquareOpen) i.bracket from s.mid s.first) ∙ begins_index i.bracket s.mid ps
    ∙ expression_goes i.at s.mid e.mid e.first (ap (starts (mark.Symbol sign.RoundOpen)) k.is) (ap (starts (mark.Symbol sign.SquareOpen)) k.is)
    (sign_of sign.SquareClose ∷ indices ∷ ps)
    ∙ goes_token (mark.Symbol sign.SquareClose) k.at e.mid t.mid k.is (indices ∷ ps) ∙ indices_run is t.mid rest t.others ps

-- statements one after another, and more may come
all_run : (kind : BlockKind) (s : BlockKind → Reading) (ss : List (BlockKind → Reading)) (from rest : List Token) → StatementRuns s →
    in_turn (s kind ∷ map (λ (s : BlockKind → Reading). s kind) ss) from ≡ Some rest
    → ((mid : List Token) → in_turn (map (λ (s : BlockKind → Reading). s kind) ss) mid ≡ Some rest → (ps : List Pending) →
    outcome (statements kind ∷ ps) mid ≡ outcome (statements kind ∷ ps) rest)
    → (ps : List Pending) → outcome (statements kind ∷ ps) from ≡ outcome (statements kind ∷ ps) rest
all_run kind s ss from rest c h again ps =
    let k = split (s kind) (map (λ (s : BlockKind → Reading). s kind) ss) from rest h in
    c.runs kind from k.mid k.first ps ∙ again k.mid k.others ps

-- statements in their braces
braces_run : (b : BlockPhrase) → ((kind : BlockKind) (from rest : List Token) → statements_in kind b from ≡ Some rest → (ps : List Pending) →
    outcome (statements kind ∷ ps) from ≡ outcome (statements kind ∷ ps) rest) → BlockRuns b
braces_run b inner = record { runs = λ kind from rest h ps. cases kind b.answer from rest h ps }
  where
    cases : (kind : BlockKind) (answer : Option Expr) (from rest : List Token) → without_answer kind b answer from ≡ Some rest → (ps : List Pending) →
        outcome (block kind ∷ ps) from ≡ outcome ps rest
    cases kind (Some e) from rest h ps = absurd (cc)
    cases kind None from rest h ps =
        let s = split (takes (mark.Symbol sign.BraceOpen) b.place) (statements_in kind b ∷ symbol sign.BraceClose ∷ []) from rest h in
        let i = split (statements_in kind b) (symbol sign.BraceClose ∷ []) s.mid rest s.others in
        let t = split (symbol sign.BraceClose) [] i.mid rest i.others in
        let k = passed (mark.Symbol sign.BraceClose) i.mid t.mid t.first in
        ap (outcome (block kind ∷ ps)) (took (mark.Symbol sign.BraceOpen) b.place from s.mid s.first) ∙ begins_block kind b.place s.mid ps
        ∙ inner kind s.mid i.mid i.first (sign_of sign.BraceClose ∷ ps) ∙ ap (outcome (statements kind ∷ sign_of sign.BraceClose ∷ ps)) k.is
        ∙ ends_close kind k.at t.mid (sign_of sign.BraceClose ∷ ps)
        ∙ ap (outcome (sign_of sign.BraceClose ∷ ps)) (sym k.is) ∙ (next_mark (mark.Symbol sign.BraceClose) done).runs i.mid rest i.others ps

-- statements in their braces, with an answer
answer_runs : (b : BlockPhrase) → ((kind : BlockKind) (from rest : List Token) → statements_in kind b from ≡ Some rest → (ps : List Pending) →
    outcome (statements kind ∷ ps) from ≡ outcome (statements kind ∷ ps) rest)
    → (kind : BlockKind) (answer : Option Expr) (from rest : List Token) → with_answer kind b answer from ≡ Some rest → (ps : List Pending) →
    outcome (answering kind ∷ ps) from ≡ outcome ps rest
answer_runs b inner kind None from rest h ps = absurd (cc)
answer_runs b inner kind (Some e) from rest h ps =
    let s = split (takes (mark.Symbol sign.BraceOpen) b.place)
    (statements_in kind b ∷ keyword word.Return ∷ expr e ∷ symbol sign.Semicolon ∷ symbol sign.BraceClose ∷ []) from rest h in
    let i = split (statements_in kind b) (keyword word.Return ∷ expr e ∷ symbol sign.Semicolon ∷ symbol sign.BraceClose ∷ []) s.mid rest s.others in
    let r = split (keyword word.Return) (expr e ∷ symbol sign.Semicolon ∷ symbol sign.BraceClose ∷ []) i.mid rest i.others in
    let k = passed (mark.Keyword word.Return) i.mid r.mid r.first in
    let a = split (expr e) (symbol sign.Semicolon ∷ symbol sign.BraceClose ∷ []) r.mid rest r.others in
    let t = split (symbol sign.Semicolon) (symbol sign.BraceClose ∷ []) a.mid rest a.others in
    let l = passed (mark.Symbol sign.Semicolon) a.mid t.mid t.first in
    ap (outcome (answering kind ∷ ps)) (took (mark.Symbol sign.BraceOpen) b.place from s.mid s.first) ∙ begins_answering kind b.place s.mid ps
    ∙ inner kind s.mid i.mid i.first (word_of word.Return ∷ expression ∷ sign_of sign.Semicolon ∷ sign_of sign.BraceClose ∷ ps)
    ∙ ap (outcome (statements kind ∷ word_of word.Return ∷ expression ∷ sign_of sign.Semicolon ∷ sign_of sign.BraceClose ∷ ps)) k.is
    ∙ ends_return kind k.at r.mid (word_of word.Return ∷ expression ∷ sign_of sign.Semicolon ∷ sign_of sign.BraceClose ∷ ps)
    ∙ goes_token (mark.Keyword word.Return) k.at (token (mark.Keyword word.Return) k.at ∷ r.mid) r.mid refl
    (expression ∷ sign_of sign.Semicolon ∷ sign_of sign.BraceClose ∷ ps)
    ∙ expression_goes e r.mid a.mid a.first (ap (starts (mark.Symbol sign.RoundOpen)) l.is) (ap (starts (mark.Symbol sign.SquareOpen)) l.is)
    (sign_of sign.Semicolon ∷ sign_of sign.BraceClose ∷ ps)
    ∙ (next_mark (mark.Symbol sign.Semicolon) (next_mark (mark.Symbol sign.BraceClose) done)).runs a.mid rest a.others ps

abbrev S : Type 0
S = (s : Stmt) × StatementRuns (statement s)

abbrev phrase_in : Block → BlockPhrase
phrase_in = fold-Block (BlockKind → Reading) BlockPhrase node_statement node_block

abbrev B : Type 0
B = (b : Block) × BlockRuns (phrase_in b)

if_runs : (test : Expr) (first second : BlockPhrase) → BlockRuns first → BlockRuns second → StatementRuns (node_statement (Stmt-F.If test first second))
if_runs test first second c d = record {
  runs = λ kind from rest h ps.
      let s = split (keyword word.If) (expr test ∷ without_answer kind first first.answer ∷ optional_block word.Else kind second ∷ []) from rest h in
      let k = passed (mark.Keyword word.If) from s.mid s.first in
      let e = split (expr test) (without_answer kind first first.answer ∷ optional_block word.Else kind second ∷ []) s.mid rest s.others in
      let b = split (without_answer kind first first.answer) (optional_block word.Else kind second ∷ []) e.mid rest e.others in
      let o = split (optional_block word.Else kind second) [] b.mid rest b.others in
      ap (outcome (statements kind ∷ ps)) k.is ∙ begins_if kind k.at s.mid ps
      ∙ expression_goes test s.mid e.mid e.first (opens_block kind first first.answer e.mid b.mid b.first (mark.Symbol sign.RoundOpen) refl)
      (opens_block kind first first.answer e.mid b.mid b.first (mark.Symbol sign.SquareOpen) refl)
      (block kind ∷ perhaps (else_block kind) ∷ statements kind ∷ ps)
      ∙ c.runs kind e.mid b.mid b.first (perhaps (else_block kind) ∷ statements kind ∷ ps)
      ∙ chosen (else_block kind) b.mid o.mid ((optional_chooses (else_block kind) word.Else kind second refl refl d).chooses b.mid o.mid o.first)
      (statements kind ∷ ps)
      ∙ ap (outcome (statements kind ∷ ps)) (empty o.mid rest o.others);
}

stmt_case : (y : Stmt-F S B) → StatementRuns (node_statement
    (map-Stmt Stmt Block (BlockKind → Reading) BlockPhrase statement phrase_in (map-Stmt S B Stmt Block (λ e. e.0) (λ e. e.0) y)))
stmt_case (Stmt-F.Let x v) = record {
  runs = λ kind from rest h ps.
      let s = split (keyword word.Let) (named x ∷ symbol sign.Assign ∷ source_in kind v ∷ symbol sign.Semicolon ∷ []) from rest h in
      let k = passed (mark.Keyword word.Let) from s.mid s.first in
      ap (outcome (statements kind ∷ ps)) k.is ∙ begins_let kind k.at s.mid ps
      ∙ (next_name x (next_mark (mark.Symbol sign.Assign) (next_source kind v done))).runs s.mid rest s.others (statements kind ∷ ps);
}
stmt_case (Stmt-F.Assign x is v) = record {
  runs = λ kind from rest h ps.
      let s = split (named x) (in_turn (indices_of is) ∷ symbol sign.Assign ∷ source_in kind v ∷ symbol sign.Semicolon ∷ []) from rest h in
      let i = split (in_turn (indices_of is)) (symbol sign.Assign ∷ source_in kind v ∷ symbol sign.Semicolon ∷ []) s.mid rest s.others in
      let t = split (symbol sign.Assign) (source_in kind v ∷ symbol sign.Semicolon ∷ []) i.mid rest i.others in
      ap (outcome (statements kind ∷ ps)) (took (mark.Name x.text) x.place from s.mid s.first) ∙ begins_assign kind x.text x.place s.mid ps
      ∙ indices_run is s.mid i.mid i.first (sign_of sign.Assign ∷ right_side kind ∷ sign_of sign.Semicolon ∷ statements kind ∷ ps)
      ∙ dropped_indices i.mid (ap (starts (mark.Symbol sign.SquareOpen)) (passed (mark.Symbol sign.Assign) i.mid t.mid t.first).is)
      (sign_of sign.Assign ∷ right_side kind ∷ sign_of sign.Semicolon ∷ statements kind ∷ ps)
      ∙ (next_mark (mark.Symbol sign.Assign) (next_source kind v done)).runs i.mid rest i.others (statements kind ∷ ps);
}
stmt_case (Stmt-F.If test first second) = if_runs test (phrase_in first.0) (phrase_in second.0) first.1 second.1
stmt_case (Stmt-F.For x w n each) = record {
  runs = λ kind from rest h ps.
      let s = split (keyword word.For) (named x ∷ symbol sign.Colon ∷ numbered w ∷ keyword word.Below ∷ numbered n ∷ without_answer kind
      (phrase_in each.0) (phrase_in each.0).answer ∷ []) from rest h in
      let k = passed (mark.Keyword word.For) from s.mid s.first in
      ap (outcome (statements kind ∷ ps)) k.is ∙ begins_for kind k.at s.mid ps
      ∙ (next_name x (next_mark (mark.Symbol sign.Colon)
      (next_number w (next_mark (mark.Keyword word.Below) (next_number n (next_block kind (phrase_in each.0) each.1 done)))))).runs s.mid rest
      s.others (statements kind ∷ ps);
}
stmt_case (Stmt-F.Call f arguments) = record { runs = λ kind from rest h ps. cases kind from rest h ps }
  where
    cases : (kind : BlockKind) (from rest : List Token) → node_statement (Stmt-F.Call f arguments) kind from ≡ Some rest → (ps : List Pending) →
        outcome (statements kind ∷ ps) from ≡ outcome (statements kind ∷ ps) rest
    cases Plain from rest h ps = absurd (cc)
    cases Spec from rest h ps = absurd (cc)
    cases Impl from rest h ps =
        let s = split (keyword word.Call) (named f ∷ bracketed arguments ∷ symbol sign.Semicolon ∷ []) from rest h in
        let k = passed (mark.Keyword word.Call) from s.mid s.first in
        ap (outcome (statements Impl ∷ ps)) k.is ∙ begins_call k.at s.mid ps
        ∙ (next_call f arguments (next_mark (mark.Symbol sign.Semicolon) done)).runs s.mid rest s.others (statements Impl ∷ ps)

shown_run : (ss : List S) (kind : BlockKind) (from rest : List Token) →
    in_turn (map (λ (s : BlockKind → Reading). s kind) (map statement (map (λ (e : S). e.0) ss))) from ≡ Some rest → (ps : List Pending) →
    outcome (statements kind ∷ ps) from ≡ outcome (statements kind ∷ ps) rest
shown_run [] kind from rest h ps = ap (outcome (statements kind ∷ ps)) (empty from rest h)
shown_run (s ∷ ss) kind from rest h ps = all_run kind (statement s.0) (map statement (map (λ (e : S). e.0) ss)) from rest s.1 h
    (λ mid k qs. shown_run ss kind mid rest k qs) ps

block_case : (y : Block-F S B) → BlockRuns (node_block
    (map-Block Stmt Block (BlockKind → Reading) BlockPhrase statement phrase_in (map-Block S B Stmt Block (λ e. e.0) (λ e. e.0) y)))
block_case y = braces_run _ (λ kind from rest h ps. shown_run y.statements kind from rest h ps)

pub statement_runs : (s : Stmt) → StatementRuns (statement s)
statement_runs =
    ind-Stmt (λ s. StatementRuns (statement s)) (λ b. BlockRuns (phrase_in b))
    (λ x y is. subst StatementRuns (sym (fold-roll-Stmt (BlockKind → Reading) BlockPhrase node_statement node_block x))
    (subst (λ z. StatementRuns (node_statement (map-Stmt Stmt Block (BlockKind → Reading) BlockPhrase statement phrase_in z))) is (stmt_case y)))
    (λ x y is. subst BlockRuns (sym (fold-roll-Block (BlockKind → Reading) BlockPhrase node_statement node_block x))
    (subst (λ z. BlockRuns (node_block (map-Block Stmt Block (BlockKind → Reading) BlockPhrase statement phrase_in z))) is (block_case y)))

statements_run : (ss : List Stmt) (kind : BlockKind) (from rest : List Token) →
    in_turn (map (λ (s : BlockKind → Reading). s kind) (map statement ss)) from ≡ Some rest → (ps : List Pending) →
    outcome (statements kind ∷ ps) from ≡ outcome (statements kind ∷ ps) rest
statements_run [] kind from rest h ps = ap (outcome (statements kind ∷ ps)) (empty from rest h)
statements_run (s ∷ ss) kind from rest h ps = all_run kind (statement s) (map statement ss) from rest (statement_runs s) h
    (λ mid k qs. statements_run ss kind mid rest k qs) ps

pub block_runs : (b : Block) → BlockRuns (block_phrase b)
block_runs b = braces_run (block_phrase b) (λ kind from rest h ps. statements_run b.statements kind from rest h ps)

-- a block with an answer, and others after it
pub next_answering : (kind : BlockKind) (b : Block) {rs : List Reading} {qs : List Pending} → Runs rs qs →
    Runs (with_answer kind (block_phrase b) b.answer ∷ rs) (answering kind ∷ qs)
next_answering kind b {rs} {qs} r = record {
  runs = λ from rest h ps. let s = split (with_answer kind (block_phrase b) b.answer) rs from rest h in
      answer_runs (block_phrase b) (λ kind from rest h ps. statements_run b.statements kind from rest h ps) kind b.answer from s.mid s.first
      (qs ++ ps) ∙ r.runs s.mid rest s.others ps;
}
