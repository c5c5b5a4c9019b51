-- What the first token of a statement or block leaves to come.
use Rattle.std.proofs.Common.{◌≡◌, ℕ, true, false, List, [], ◌∷◌, refl, sym, ap, ◌∙◌}
use Rattle.ygg_base.specs.declared.token.Keyword.{Keyword}
use Rattle.ygg_base.specs.declared.token.Keyword.TheVariants as word
use Rattle.ygg_base.specs.declared.token.Symbol.TheVariants as sign
use Rattle.ygg_base.specs.declared.token.Mark.{Mark}
use Rattle.ygg_base.specs.declared.token.Mark.TheVariants as mark
use Rattle.ygg_base.specs.declared.token.Token.{Token}
use Rattle.ygg_syntax.specs.declared.grammar.BlockKind.{BlockKind}
use Rattle.ygg_syntax.specs.declared.grammar.BlockKind.TheVariants as purpose
use Rattle.ygg_syntax.specs.declared.tree.Place.{Place}
use Rattle.ygg_syntax.specs.Reading.{token, same_mark, starts}
use Rattle.ygg_syntax.specs.Pending.{
  Pending,
  Part,
  leaves,
  drops,
  refuses,
  after,
  after_statements,
  name,
  number,
  expression,
  indices,
  rest_of_arguments,
  right_side,
  block,
  answering,
  statements,
  perhaps,
  else_block,
  beginning,
  rest_of,
  sign_of,
  word_of,
  outcome,
}
use Rattle.ygg_read.proofs.ExpressionPhrases.{same}
use Rattle.ygg_read.proofs.Stopped.{next, left_out}
use Rattle.ygg_read.specs.Steps.{takes_token, begins}

pub begins_let : (kind : BlockKind) (at : Place) (rest : List Token) (qs : List Pending)
    → outcome (statements kind ∷ qs) (token (mark.Keyword word.Let) at ∷ rest) ≡ outcome
    (name ∷ sign_of sign.Assign ∷ right_side kind ∷ sign_of sign.Semicolon ∷ statements kind ∷ qs) rest
unfolding outcome
begins_let purpose.Plain at rest qs = refl
begins_let purpose.Spec at rest qs = refl
begins_let purpose.Impl at rest qs = refl

pub begins_assign : (kind : BlockKind) (text : List ℕ) (at : Place) (rest : List Token) (qs : List Pending)
    → outcome (statements kind ∷ qs) (token (mark.Name text) at ∷ rest) ≡ outcome
    (indices ∷ sign_of sign.Assign ∷ right_side kind ∷ sign_of sign.Semicolon ∷ statements kind ∷ qs) rest
unfolding outcome
begins_assign purpose.Plain text at rest qs = refl
begins_assign purpose.Spec text at rest qs = refl
begins_assign purpose.Impl text at rest qs = refl

pub begins_if : (kind : BlockKind) (at : Place) (rest : List Token) (qs : List Pending)
    → outcome (statements kind ∷ qs) (token (mark.Keyword word.If) at ∷ rest) ≡ outcome
    (expression ∷ block kind ∷ perhaps (else_block kind) ∷ statements kind ∷ qs) rest
unfolding outcome
begins_if purpose.Plain at rest qs = refl
begins_if purpose.Spec at rest qs = refl
begins_if purpose.Impl at rest qs = refl

pub begins_for : (kind : BlockKind) (at : Place) (rest : List Token) (qs : List Pending)
    → outcome (statements kind ∷ qs) (token (mark.Keyword word.For) at ∷ rest) ≡ outcome
    (name ∷ sign_of sign.Colon ∷ number ∷ word_of word.Below ∷ number ∷ block kind ∷ statements kind ∷ qs) rest
unfolding outcome
begins_for purpose.Plain at rest qs = refl
begins_for purpose.Spec at rest qs = refl
begins_for purpose.Impl at rest qs = refl

pub begins_call : (at : Place) (rest : List Token) (qs : List Pending)
    → outcome (statements purpose.Impl ∷ qs) (token (mark.Keyword word.Call) at ∷ rest) ≡ outcome
    (name ∷ sign_of sign.RoundOpen ∷ rest_of_arguments ∷ sign_of sign.Semicolon ∷ statements purpose.Impl ∷ qs) rest
unfolding outcome
begins_call at rest qs = refl

pub begins_block : (kind : BlockKind) (at : Place) (rest : List Token) (qs : List Pending)
    → outcome (block kind ∷ qs) (token (mark.Symbol sign.BraceOpen) at ∷ rest) ≡ outcome (statements kind ∷ sign_of sign.BraceClose ∷ qs) rest
unfolding outcome
begins_block kind at rest qs = refl

pub begins_answering : (kind : BlockKind) (at : Place) (rest : List Token) (qs : List Pending)
    → outcome (answering kind ∷ qs) (token (mark.Symbol sign.BraceOpen) at ∷ rest) ≡ outcome
    (statements kind ∷ word_of word.Return ∷ expression ∷ sign_of sign.Semicolon ∷ sign_of sign.BraceClose ∷ qs) rest
unfolding outcome
begins_answering kind at rest qs = refl

no_block : (kind : BlockKind) (m : Mark) → same_mark (mark.Symbol sign.BraceOpen) m ≡ false → after (block kind) m ≡ refuses
no_block kind m h = rw (after, h) refl

-- a block begins with a brace
pub stopped_block : (kind : BlockKind) (from : List Token) → starts (mark.Symbol sign.BraceOpen) from ≡ false → (qs : List Pending) →
    outcome (block kind ∷ qs) from ≡ outcome (sign_of sign.BraceOpen ∷ qs) from
unfolding outcome
stopped_block kind [] h qs = refl
stopped_block kind (t ∷ ts) h qs = next (block kind) qs t ts refuses (no_block kind t.mark h)
    ∙ sym (next (sign_of sign.BraceOpen) qs t ts refuses (rw (after, h) refl))

no_answering : (kind : BlockKind) (m : Mark) → same_mark (mark.Symbol sign.BraceOpen) m ≡ false → after (answering kind) m ≡ refuses
no_answering kind m h = rw (after, h) refl

pub stopped_answering : (kind : BlockKind) (from : List Token) → starts (mark.Symbol sign.BraceOpen) from ≡ false → (qs : List Pending) →
    outcome (answering kind ∷ qs) from ≡ outcome (sign_of sign.BraceOpen ∷ qs) from
unfolding outcome
stopped_answering kind [] h qs = refl
stopped_answering kind (t ∷ ts) h qs = next (answering kind) qs t ts refuses (no_answering kind t.mark h)
    ∙ sym (next (sign_of sign.BraceOpen) qs t ts refuses (rw (after, h) refl))

-- a part that begins with its keyword
pub begins_part : (p : Part) (k : Keyword) (kind : BlockKind) → beginning p ≡ mark.Keyword k → rest_of p ≡ block kind ∷ [] →
    (at : Place) (rest : List Token) (qs : List Pending)
    → outcome (perhaps p ∷ qs) (token (mark.Keyword k) at ∷ rest) ≡ outcome (block kind ∷ qs) rest
begins_part p k kind begin is at rest qs = next (perhaps p) qs (token (mark.Keyword k) at) rest (leaves (block kind ∷ []))
    (rw (after, begin, same (mark.Keyword k), is) refl)

-- a part whose keyword doesn't come
pub no_part : (p : Part) (k : Keyword) (from : List Token) → beginning p ≡ mark.Keyword k → starts (mark.Keyword k) from ≡ false → (qs : List Pending)
    → outcome (perhaps p ∷ qs) from ≡ outcome qs from
no_part p k from begin h qs = left_out p from (ap (λ (m : Mark). starts m from) begin ∙ h) qs

dropped : (kind : BlockKind) (m : Mark) → takes_token (after_statements kind m) ≡ false → after_statements kind m ≡ drops
dropped kind (mark.Name text) h = absurd (cc)
dropped kind (mark.Num n) h = refl
dropped kind (mark.Symbol s) h = refl
dropped kind (mark.Keyword word.Let) h = absurd (cc)
dropped kind (mark.Keyword word.If) h = absurd (cc)
dropped kind (mark.Keyword word.For) h = absurd (cc)
dropped purpose.Plain (mark.Keyword word.Call) h = refl
dropped purpose.Spec (mark.Keyword word.Call) h = refl
dropped purpose.Impl (mark.Keyword word.Call) h = absurd (cc)
dropped kind (mark.Keyword k) h = refl

-- statements end where none begins
pub no_statement : (kind : BlockKind) (from : List Token) → begins kind from ≡ false → (qs : List Pending) →
    outcome (statements kind ∷ qs) from ≡ outcome qs from
unfolding outcome
no_statement kind [] h qs = refl
no_statement kind (t ∷ ts) h qs = next (statements kind) qs t ts drops (dropped kind t.mark h)

-- a call begins a statement in an implementation alone
pub calls : (kind : BlockKind) (at : Place) (rest : List Token) → begins kind (token (mark.Keyword word.Call) at ∷ rest) ≡ true → kind ≡ purpose.Impl
calls purpose.Plain at rest h = absurd (cc)
calls purpose.Spec at rest h = absurd (cc)
calls purpose.Impl at rest h = refl

-- a statement begins with a name or one of four keywords
pub begun : (kind : BlockKind) (from : List Token) → begins kind from ≡ true →
    ((text : List ℕ) (at : Place) (rest : List Token) → from ≡ token (mark.Name text) at ∷ rest → ⊥)
    → starts (mark.Keyword word.Let) from ≡ false → starts (mark.Keyword word.If) from ≡ false → starts (mark.Keyword word.For) from ≡ false →
    starts (mark.Keyword word.Call) from ≡ false → ⊥
begun kind [] h no_name no_let no_if no_for no_call = absurd (cc)
begun kind (t ∷ ts) h no_name no_let no_if no_for no_call = other kind t.mark refl h
  where
    place : Place
    place = record { line = t.line; column = t.column }

    other : (kind : BlockKind) (m : Mark) → t.mark ≡ m → takes_token (after_statements kind t.mark) ≡ true → ⊥
    other kind (mark.Name text) e h = no_name text place ts (ap (λ (m : Mark). token m place ∷ ts) e)
    other kind (mark.Num n) e h = let h = sym (ap (λ (m : Mark). takes_token (after_statements kind m)) e) ∙ h in absurd (cc)
    other kind (mark.Symbol s) e h = let h = sym (ap (λ (m : Mark). takes_token (after_statements kind m)) e) ∙ h in absurd (cc)
    other kind (mark.Keyword word.Let) e h = let h = sym (ap (same_mark (mark.Keyword word.Let)) e) ∙ no_let in absurd (cc)
    other kind (mark.Keyword word.If) e h = let h = sym (ap (same_mark (mark.Keyword word.If)) e) ∙ no_if in absurd (cc)
    other kind (mark.Keyword word.For) e h = let h = sym (ap (same_mark (mark.Keyword word.For)) e) ∙ no_for in absurd (cc)
    other kind (mark.Keyword word.Call) e h = let h = sym (ap (same_mark (mark.Keyword word.Call)) e) ∙ no_call in absurd (cc)
    other kind (mark.Keyword k) e h = let h = sym (ap (λ (m : Mark). takes_token (after_statements kind m)) e) ∙ h in absurd (cc)
