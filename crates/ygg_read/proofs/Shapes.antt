-- Types, and names with their types.
use Rattle.std.proofs.Common.{◌≡◌, false, List, [], ◌∷◌, refl, sym, ap, ◌∙◌}
use Rattle.ygg_base.specs.declared.token.Keyword.TheVariants as word
use Rattle.ygg_base.specs.declared.token.Symbol.TheVariants as sign
use Rattle.ygg_base.specs.declared.token.Mark.{Mark}
use Rattle.ygg_base.specs.declared.token.Mark.TheVariants as mark
use Rattle.ygg_base.specs.declared.token.Token.{Token}
use Rattle.ygg_syntax.specs.declared.grammar.Sort.{Sort}
use Rattle.ygg_syntax.specs.declared.grammar.Sort.TheVariants as sorts
use Rattle.ygg_syntax.specs.Reading.{same_mark, starts}
use Rattle.ygg_syntax.specs.Pending.{Pending, leaves, refuses, after, name, some_type, rest_of_declared, repeated, next_declared, sign_of, outcome}
use Rattle.ygg_read.specs.ExpressionSteps.{Stops}
use Rattle.ygg_read.proofs.Stopped.{next}

no_small : (m : Mark) → same_mark (mark.Keyword word.Word) m ≡ false → same_mark (mark.Keyword word.Row) m ≡ false → after (some_type sorts.Small) m ≡ refuses
no_small (mark.Keyword word.Word) h k = absurd (cc)
no_small (mark.Keyword word.Row) h k = absurd (cc)
no_small (mark.Keyword w) h k = refl
no_small (mark.Symbol s) h k = refl
no_small (mark.Name text) h k = refl
no_small (mark.Num n) h k = refl

-- neither a word nor a row comes
pub stopped_small : (from : List Token) → starts (mark.Keyword word.Word) from ≡ false → starts (mark.Keyword word.Row) from ≡ false →
    Stops (some_type sorts.Small ∷ []) from from
unfolding outcome
stopped_small [] h k = λ qs. refl
stopped_small (t ∷ ts) h k = λ qs. next (some_type sorts.Small) qs t ts refuses (no_small t.mark h k)

no_type : (m : Mark) → same_mark (mark.Keyword word.Word) m ≡ false → same_mark (mark.Keyword word.Row) m ≡ false →
    same_mark (mark.Keyword word.Table) m ≡ false → after (some_type sorts.All) m ≡ refuses
no_type (mark.Keyword word.Word) h k l = absurd (cc)
no_type (mark.Keyword word.Row) h k l = absurd (cc)
no_type (mark.Keyword word.Table) h k l = absurd (cc)
no_type (mark.Keyword w) h k l = refl
no_type (mark.Symbol s) h k l = refl
no_type (mark.Name text) h k l = refl
no_type (mark.Num n) h k l = refl

-- nor does a table
pub stopped_all : (from : List Token) → starts (mark.Keyword word.Word) from ≡ false → starts (mark.Keyword word.Row) from ≡ false →
    starts (mark.Keyword word.Table) from ≡ false → Stops (some_type sorts.All ∷ []) from from
unfolding outcome
stopped_all [] h k l = λ qs. refl
stopped_all (t ∷ ts) h k l = λ qs. next (some_type sorts.All) qs t ts refuses (no_type t.mark h k l)

-- symbols that the next token leaves the same
both_come : (sort : Sort) (t : Token) (ts : List Token) (qs : List Pending) (m : Mark) → t.mark ≡ m → same_mark (mark.Symbol sign.RoundClose) m ≡ false
    → outcome (rest_of_declared sort ∷ qs) (t ∷ ts) ≡ outcome
    (name ∷ sign_of sign.Colon ∷ some_type sort ∷ repeated (next_declared sort) ∷ sign_of sign.RoundClose ∷ qs) (t ∷ ts)
both_come sort t ts qs (mark.Name text) e h =
    next (rest_of_declared sort) qs t ts (leaves (sign_of sign.Colon ∷ some_type sort ∷ repeated (next_declared sort) ∷ sign_of sign.RoundClose ∷ []))
    (ap (after (rest_of_declared sort)) e)
    ∙ sym (next name (sign_of sign.Colon ∷ some_type sort ∷ repeated (next_declared sort) ∷ sign_of sign.RoundClose ∷ qs) t ts (leaves []) (ap (after name) e))
both_come sort t ts qs (mark.Symbol sign.RoundClose) e h = absurd (cc)
both_come sort t ts qs (mark.Symbol s) e h = next (rest_of_declared sort) qs t ts refuses (ap (after (rest_of_declared sort)) e)
    ∙ sym (next name _ t ts refuses (ap (after name) e))
both_come sort t ts qs (mark.Num n) e h = next (rest_of_declared sort) qs t ts refuses (ap (after (rest_of_declared sort)) e)
    ∙ sym (next name _ t ts refuses (ap (after name) e))
both_come sort t ts qs (mark.Keyword k) e h = next (rest_of_declared sort) qs t ts refuses (ap (after (rest_of_declared sort)) e)
    ∙ sym (next name _ t ts refuses (ap (after name) e))

-- where no bracket closes at once a name comes
pub some_declared : (sort : Sort) (from : List Token) → starts (mark.Symbol sign.RoundClose) from ≡ false → (qs : List Pending)
    → outcome (rest_of_declared sort ∷ qs) from ≡ outcome
    (name ∷ sign_of sign.Colon ∷ some_type sort ∷ repeated (next_declared sort) ∷ sign_of sign.RoundClose ∷ qs) from
unfolding outcome
some_declared sort [] h qs = refl
some_declared sort (t ∷ ts) h qs = both_come sort t ts qs t.mark refl h
