-- What is left of tokens once a reading has taken some from their front.
use Rattle.std.proofs.Common.{
  ◌≡◌,
  ℕ,
  ◌+◌,
  ◌≤◌,
  Bool,
  true,
  false,
  if◌then◌else◌,
  arith,
  List,
  [],
  ◌∷◌,
  map,
  length,
  Option,
  Some,
  None,
  refl,
  sym,
  ap,
  subst,
}
use Rattle.ygg_base.specs.declared.token.Keyword.{Keyword}
use Rattle.ygg_base.specs.declared.token.Keyword.TheVariants as word
use Rattle.ygg_base.specs.declared.token.Mark.TheVariants as mark
use Rattle.ygg_base.specs.declared.token.Token.{Token}
use Rattle.ygg_syntax.specs.declared.grammar.BlockKind.{BlockKind}
use Rattle.ygg_syntax.specs.declared.grammar.BlockKind.TheVariants.{Plain, Spec, Impl}
use Rattle.ygg_syntax.specs.declared.tree.Place.{Place}
use Rattle.ygg_syntax.specs.declared.tree.Index.{Index}
use Rattle.ygg_syntax.specs.declared.tree.Source.{Source}
use Rattle.ygg_syntax.specs.declared.tree.Source.TheVariants as source
use Rattle.ygg_syntax.specs.declared.tree.Expr.{Expr, map-Expr}
use Rattle.ygg_syntax.specs.declared.tree.Expr.TheOpen.{Expr-F}
use Rattle.ygg_syntax.specs.declared.tree.Expr.TheFolds.{ind-Expr, fold-roll-Expr}
use Rattle.ygg_syntax.specs.declared.tree.Stmt.{Stmt, map-Stmt}
use Rattle.ygg_syntax.specs.declared.tree.Block.{Block, map-Block, fold-Block}
use Rattle.ygg_syntax.specs.declared.tree.Stmt.TheOpen.{Stmt-F, Block-F}
use Rattle.ygg_syntax.specs.declared.tree.Stmt.TheFolds.{ind-Stmt, fold-roll-Stmt, fold-roll-Block}
use Rattle.ygg_syntax.specs.Reading.{Reading, starts, passes, in_turn, impossible}
use Rattle.ygg_syntax.specs.Expressions.{Phrase, node_phrase, phrase, expr, whole, indexed, any, some, more}
use Rattle.ygg_syntax.specs.Blocks.{
  BlockPhrase,
  bracketed,
  choice,
  call_in,
  source_in,
  indices_of,
  statements_in,
  without_answer,
  with_answer,
  is_unwritten,
  optional_block,
  node_statement,
  node_block,
  statement,
  block_phrase,
}

-- the reading takes at least so many tokens
pub record Takes (n : ℕ) (r : Reading) : Type 0 where
  pub takes : (from rest : List Token) → r from ≡ Some rest → n + length rest ≤ length from

-- one reading, and the others after it
pub record Split (r : Reading) (rs : List Reading) (from rest : List Token) : Type 0 where
  pub mid : List Token
  pub first : r from ≡ Some mid
  pub others : in_turn rs mid ≡ Some rest

pub split : (r : Reading) (rs : List Reading) (from rest : List Token) → in_turn (r ∷ rs) from ≡ Some rest → Split r rs from rest
unfolding in_turn
split r rs from rest h = cases (r from) refl h
  where
    cases : (o : Option (List Token)) → r from ≡ o → elim o as (λ o. Option (List Token)) [ None ↦ None | Some s ↦ in_turn rs s ] ≡ Some rest →
        Split r rs from rest
    cases None e k = absurd (cc)
    cases (Some s) e k = record { mid = s; first = e; others = k }

empty : (from rest : List Token) → in_turn [] from ≡ Some rest → from ≡ rest
unfolding in_turn
empty from rest h = cc

same_length : (from rest : List Token) → from ≡ rest → 0 + length rest ≤ length from
same_length from rest e = let same : length from ≡ length rest = ap length e in omega (arith, same)

-- readings in turn take at least so many tokens
pub record Take (n : ℕ) (rs : List Reading) : Type 0 where
  pub takes : (from rest : List Token) → in_turn rs from ≡ Some rest → n + length rest ≤ length from

-- as one reading
pub all_of : {n : ℕ} {rs : List Reading} → Take n rs → Takes n (in_turn rs)
all_of t = record { takes = t.takes }

pub done : Take 0 []
done = record { takes = λ from rest h. same_length from rest (empty from rest h) }

-- a reading before others of which so much is known
pub pass : {r : Reading} {rs : List Reading} {n : ℕ} → Takes 0 r → Take n rs → Take n (r ∷ rs)
pass {r} {rs} one others = record {
  takes = λ from rest h.
      let s = split r rs from rest h in
      let a = one.takes from s.mid s.first in
      let b = others.takes s.mid rest s.others in
      omega (arith, a, b);
}

-- a reading that takes at least so many tokens, before others
pub here : {r : Reading} {rs : List Reading} {n : ℕ} → Takes n r → Take 0 rs → Take n (r ∷ rs)
here {r} {rs} one others = record {
  takes = λ from rest h.
      let s = split r rs from rest h in
      let a = one.takes from s.mid s.first in
      let b = others.takes s.mid rest s.others in
      omega (arith, a, b);
}

-- any number of tokens
pub some_tokens : {r : Reading} {n : ℕ} → Takes n r → Takes 0 r
some_tokens t = record { takes = λ from rest h. (let a = t.takes from rest h in omega (arith, a)) }

pub no_reading : {r : Reading} → ((from rest : List Token) → r from ≡ Some rest → ⊥) → Takes 0 r
no_reading none = record { takes = λ from rest h. absurd (none from rest h) }

-- a token that passes a test, as one of a mark does, wherever it stands or at its place
abbrev pub tested : (Token → Bool) → Reading
tested test [] = None
tested test (t ∷ ts) = if test t then Some ts else None

pub one_token : (test : Token → Bool) → Takes 1 (tested test)
one_token test = record { takes = cases }
  where
    found : (b : Bool) (t : Token) (ts rest : List Token) → (if b then Some ts else None) ≡ Some rest → 1 + length rest ≤ length (t ∷ ts)
    found true t ts rest h = let e : ts ≡ rest = cc in let same : length ts ≡ length rest = ap length e in omega (arith, same)
    found false t ts rest h = absurd (cc)

    cases : (from rest : List Token) → tested test from ≡ Some rest → 1 + length rest ≤ length from
    cases [] rest h = absurd (cc)
    cases (t ∷ ts) rest h = found (test t) t ts rest h

-- a token, and others after it
pub token : (test : Token → Bool) {rs : List Reading} {n : ℕ} → Take n rs → Take n (tested test ∷ rs)
token test others = pass (some_tokens (one_token test)) others

-- each of a list takes a token at least
pub each_takes : {A : Type 0} (r : A → Reading) → ((a : A) → Takes 1 (r a)) → (all : List A) → Takes (length all) (in_turn (map r all))
each_takes r one [] = all_of done
each_takes r one (a ∷ others) = record {
  takes = λ from rest h.
      let s = split (r a) (map r others) from rest h in
      let first = (one a).takes from s.mid s.first in
      let more = (each_takes r one others).takes s.mid rest s.others in
      omega (arith, first, more);
}

-- expressions whose phrases take tokens
abbrev Shown : Type 0
Shown = (e : Expr) × Takes 0 (expr e)

abbrev tree_in : Shown → Expr
tree_in s = s.0

abbrev phrases : List Shown → List Phrase
phrases es = map phrase (map tree_in es)

more_taken : (es : List Shown) → Take 0 (more (phrases es))
more_taken [] = done
more_taken (e ∷ es) = token _ (pass e.1 (more_taken es))

some_taken : (es : List Shown) → Takes 0 (some (phrases es))
some_taken [] = no_reading (λ from rest h. cc)
some_taken (e ∷ es) = all_of (pass e.1 (more_taken es))

any_taken : (es : List Shown) → Takes 0 (any (phrases es))
any_taken [] = all_of done
any_taken (e ∷ es) = some_taken (e ∷ es)

indexed_taken : (p : Phrase) → Takes 0 (whole p) → Takes 0 (indexed p)
indexed_taken p t = record { takes = λ from rest h. cases p.indexable from rest h }
  where
    cases : (b : Bool) (from rest : List Token) → (if b then whole p else impossible) from ≡ Some rest → 0 + length rest ≤ length from
    cases true from rest h = t.takes from rest h
    cases false from rest h = absurd (cc)

-- one rule a line
node : (y : Expr-F Shown) → Takes 0 (whole (node_phrase (map-Expr Expr Phrase phrase (map-Expr Shown Expr tree_in y))))
node (Expr-F.Constant v w) = all_of (token _ (token _ (token _ done)))
node (Expr-F.Low first x) = all_of (token _ (token _ (token _ done)))
node (Expr-F.Variable x) = all_of (token _ done)
node (Expr-F.Apply f es) = all_of (token _ (token _ (pass (any_taken es) (token _ done))))
node (Expr-F.Binary first a op at b) = all_of (token _ (pass a.1 (token _ (pass b.1 (token _ done)))))
node (Expr-F.Not first a) = all_of (token _ (pass a.1 done))
node (Expr-F.At a bracket i) = all_of (pass (indexed_taken (phrase a.0) a.1) (token _ (pass i.1 (token _ done))))
node (Expr-F.Pick first c a b) = all_of (token _ (token _ (pass c.1 (token _ (pass a.1 (token _ (pass b.1 (token _ done))))))))
node (Expr-F.Resize first a w) = all_of (token _ (token _ (pass a.1 (token _ (token _ (token _ done))))))
node (Expr-F.Fill first m a) = all_of (token _ (token _ (token _ (token _ (pass a.1 (token _ done))))))
node (Expr-F.Row first es) = all_of (token _ (token _ (pass (some_taken es) (token _ done))))
node (Expr-F.Quantified first which x w n e) = all_of (token _ (token _ (token _ (token _ (token _ (token _ (token _ (token _ (pass e.1 (token _ done))))))))))

pub expr_taken : (e : Expr) → Takes 0 (expr e)
expr_taken = ind-Expr (λ e. Takes 0 (whole (phrase e)))
    (λ x y is. subst (λ p. Takes 0 (whole p)) (sym (fold-roll-Expr Phrase node_phrase x))
    (subst (λ z. Takes 0 (whole (node_phrase (map-Expr Expr Phrase phrase z)))) is (node y)))

more_exprs : (es : List Expr) → Take 0 (more (map phrase es))
more_exprs [] = done
more_exprs (e ∷ es) = token _ (pass (expr_taken e) (more_exprs es))

any_exprs : (es : List Expr) → Takes 0 (any (map phrase es))
any_exprs [] = all_of done
any_exprs (e ∷ es) = all_of (pass (expr_taken e) (more_exprs es))

bracketed_taken : (es : List Expr) → Takes 0 (bracketed es)
bracketed_taken es = all_of (token _ (pass (any_exprs es) (token _ done)))

call_taken : (kind : BlockKind) (rs : List Reading) → Take 0 rs → Takes 0 (call_in kind rs)
call_taken Plain rs t = no_reading (λ from rest h. cc)
call_taken Spec rs t = no_reading (λ from rest h. cc)
call_taken Impl rs t = all_of t

choice_taken : (kind : BlockKind) (at : Place) → Takes 0 (choice kind at)
choice_taken Plain at = no_reading (λ from rest h. cc)
choice_taken Spec at = some_tokens (one_token _)
choice_taken Impl at = no_reading (λ from rest h. cc)

source_taken : (kind : BlockKind) (s : Source) → Takes 0 (source_in kind s)
source_taken kind (source.Value e) = expr_taken e
source_taken kind (source.Choose at) = choice_taken kind at
source_taken kind (source.Call at f es) = call_taken kind _ (token _ (token _ (pass (bracketed_taken es) done)))

indices_taken : (is : List Index) → Take 0 (indices_of is)
indices_taken [] = done
indices_taken (i ∷ is) = token _ (pass (expr_taken i.at) (token _ (indices_taken is)))

-- the statements of a block take tokens
abbrev BlockTakes : BlockPhrase → Type 0
BlockTakes b = (kind : BlockKind) → Takes 0 (statements_in kind b)

without_taken : (kind : BlockKind) (b : BlockPhrase) (answer : Option Expr) → BlockTakes b → Takes 0 (without_answer kind b answer)
without_taken kind b None t = all_of (token _ (pass (t kind) (token _ done)))
without_taken kind b (Some e) t = no_reading (λ from rest h. cc)

with_taken : (kind : BlockKind) (b : BlockPhrase) (answer : Option Expr) → BlockTakes b → Takes 0 (with_answer kind b answer)
with_taken kind b None t = no_reading (λ from rest h. cc)
with_taken kind b (Some e) t = all_of (token _ (pass (t kind) (token _ (pass (expr_taken e) (token _ (token _ done))))))

-- what may be left out
pub either : (r : Reading) (b c : Bool) (from rest : List Token) → Takes 0 r → (if b then r from else if c then Some from else None) ≡ Some rest →
    0 + length rest ≤ length from
either r true c from rest t h = t.takes from rest h
either r false true from rest t h = same_length from rest (cc)
either r false false from rest t h = absurd (cc)

optional_taken : (k : Keyword) (kind : BlockKind) (b : BlockPhrase) → BlockTakes b → Takes 0 (optional_block k kind b)
optional_taken k kind b t = record {
  takes = λ from rest h.
      either (in_turn (passes (mark.Keyword k) ∷ without_answer kind b b.answer ∷ [])) (starts (mark.Keyword k) from) (is_unwritten b) from rest
      (all_of (token _ (pass (without_taken kind b b.answer t) done))) h;
}

abbrev S : Type 0
S = (s : Stmt) × ((kind : BlockKind) → Takes 0 (statement s kind))

abbrev phrase_in : Block → BlockPhrase
phrase_in = fold-Block (BlockKind → Reading) BlockPhrase node_statement node_block

abbrev B : Type 0
B = (b : Block) × BlockTakes (phrase_in b)

stmt_case : (y : Stmt-F S B) (kind : BlockKind) → Takes 0 (node_statement
    (map-Stmt Stmt Block (BlockKind → Reading) BlockPhrase statement phrase_in (map-Stmt S B Stmt Block (λ e. e.0) (λ e. e.0) y)) kind)
stmt_case (Stmt-F.Let x v) kind = all_of (token _ (token _ (token _ (pass (source_taken kind v) (token _ done)))))
stmt_case (Stmt-F.Assign x is v) kind = all_of (token _ (pass (all_of (indices_taken is)) (token _ (pass (source_taken kind v) (token _ done)))))
stmt_case (Stmt-F.If test first second) kind =
    all_of (token _ (pass (expr_taken test) (pass (without_taken kind (phrase_in first.0) (phrase_in first.0).answer first.1)
    (pass (optional_taken word.Else kind (phrase_in second.0) second.1) done))))
stmt_case (Stmt-F.For x w n each) kind =
    all_of (token _ (token _ (token _ (token _ (token _ (token _
    (pass (without_taken kind (phrase_in each.0) (phrase_in each.0).answer each.1) done)))))))
stmt_case (Stmt-F.Call f es) kind = call_taken kind _ (token _ (token _ (pass (bracketed_taken es) (token _ done))))

shown_taken : (ss : List S) (kind : BlockKind) →
    Take 0 (map (λ (s : BlockKind → Reading). s kind) (map statement (map (λ (e : S). e.0) ss)))
shown_taken [] kind = done
shown_taken (s ∷ ss) kind = pass (s.1 kind) (shown_taken ss kind)

block_case : (y : Block-F S B) → BlockTakes (node_block
    (map-Block Stmt Block (BlockKind → Reading) BlockPhrase statement phrase_in (map-Block S B Stmt Block (λ e. e.0) (λ e. e.0) y)))
block_case y kind = all_of (shown_taken y.statements kind)

statement_taken : (s : Stmt) (kind : BlockKind) → Takes 0 (statement s kind)
statement_taken =
    ind-Stmt (λ s. (kind : BlockKind) → Takes 0 (statement s kind)) (λ b. BlockTakes (phrase_in b))
    (λ x y is. subst (λ (r : BlockKind → Reading). (kind : BlockKind) → Takes 0 (r kind))
    (sym (fold-roll-Stmt (BlockKind → Reading) BlockPhrase node_statement node_block x))
    (subst (λ z. (kind : BlockKind) → Takes 0 (node_statement (map-Stmt Stmt Block (BlockKind → Reading) BlockPhrase statement phrase_in z) kind)) is
    (stmt_case y)))
    (λ x y is. subst BlockTakes (sym (fold-roll-Block (BlockKind → Reading) BlockPhrase node_statement node_block x))
    (subst (λ z. BlockTakes (node_block (map-Block Stmt Block (BlockKind → Reading) BlockPhrase statement phrase_in z))) is (block_case y)))

statements_taken : (ss : List Stmt) (kind : BlockKind) → Take 0 (map (λ (s : BlockKind → Reading). s kind) (map statement ss))
statements_taken [] kind = done
statements_taken (s ∷ ss) kind = pass (statement_taken s kind) (statements_taken ss kind)

-- a block without an answer, with one, and one that may be left out
pub block_taken : (kind : BlockKind) (b : Block) → Takes 0 (without_answer kind (block_phrase b) b.answer)
block_taken kind b = without_taken kind (block_phrase b) b.answer (λ kind. all_of (statements_taken b.statements kind))

pub answering_taken : (kind : BlockKind) (b : Block) → Takes 0 (with_answer kind (block_phrase b) b.answer)
answering_taken kind b = with_taken kind (block_phrase b) b.answer (λ kind. all_of (statements_taken b.statements kind))

pub optional_block_taken : (k : Keyword) (kind : BlockKind) (b : Block) → Takes 0 (optional_block k kind (block_phrase b))
optional_block_taken k kind b = optional_taken k kind (block_phrase b) (λ kind. all_of (statements_taken b.statements kind))
