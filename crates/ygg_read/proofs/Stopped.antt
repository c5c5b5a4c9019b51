-- Where a token can't come.
use Rattle.std.proofs.Common.{◌≡◌, ℕ, false, List, [], ◌∷◌, ◌++◌, length, Some, None, refl, sym, ap, ◌∙◌, append_assoc}
use Rattle.ygg_base.specs.declared.token.Keyword.TheVariants as word
use Rattle.ygg_base.specs.declared.token.Symbol.{Symbol}
use Rattle.ygg_base.specs.declared.token.Symbol.TheVariants as sign
use Rattle.ygg_value.specs.declared.operation.Op.{Op}
use Rattle.ygg_base.specs.declared.token.Mark.{Mark}
use Rattle.ygg_base.specs.declared.token.Mark.TheVariants as mark
use Rattle.ygg_base.specs.declared.token.Token.{Token}
use Rattle.ygg_syntax.specs.declared.tree.Place.{Place}
use Rattle.ygg_syntax.specs.Reading.{token, starts, same_mark}
use Rattle.ygg_syntax.specs.Pending.{Pending, exactly, name, number, operator, expression, indices, arguments, rest_of_arguments, more_expressions, sign_of}
use Rattle.ygg_syntax.specs.Pending.{Part, index, argument_list, next_expression, perhaps, repeated, beginning, after, after_expression, after_arguments}
use Rattle.ygg_syntax.specs.Pending.{then_come, after_operator, operation_of, After, leaves, drops, refuses, step, End, stops, outcome}
use Rattle.ygg_read.specs.ExpressionSteps.{Stops}
use Rattle.ygg_read.proofs.ExpressionPhrases.{same}

-- what a symbol becomes decides how reading goes on
abbrev pub goes_on : After → List Pending → Token → List Token → End
goes_on (leaves qs) ps t ts = outcome (qs ++ ps) ts
goes_on drops ps t ts = outcome ps (t ∷ ts)
goes_on refuses ps t ts = stops (length (t ∷ ts))

pub next : (p : Pending) (ps : List Pending) (t : Token) (ts : List Token) (a : After) → after p t.mark ≡ a → outcome (p ∷ ps) (t ∷ ts) ≡ goes_on a ps t ts
unfolding outcome
next p ps t ts (leaves qs) e = rw (outcome, step, e) refl
next p ps t ts drops e = rw (outcome, step, e) refl
next p ps t ts refuses e = rw (outcome, step, e) refl

-- the token comes
pub goes_token : (m : Mark) (at : Place) (from rest : List Token) → from ≡ token m at ∷ rest → (qs : List Pending) →
    outcome (exactly m ∷ qs) from ≡ outcome qs rest
goes_token m at from rest e qs = rw e (next (exactly m) qs (token m at) rest (leaves []) (rw (after, same m) refl))

pub goes_number : (n : ℕ) (at : Place) (from rest : List Token) → from ≡ token (mark.Num n) at ∷ rest → (qs : List Pending) →
    outcome (number ∷ qs) from ≡ outcome qs rest
goes_number n at from rest e qs = rw e (next number qs (token (mark.Num n) at) rest (leaves []) refl)

pub goes_name : (text : List ℕ) (at : Place) (from rest : List Token) → from ≡ token (mark.Name text) at ∷ rest → (qs : List Pending) →
    outcome (name ∷ qs) from ≡ outcome qs rest
goes_name text at from rest e qs = rw e (next name qs (token (mark.Name text) at) rest (leaves []) refl)

-- another token comes, or none
pub stopped : (m : Mark) (from : List Token) → starts m from ≡ false → Stops (exactly m ∷ []) from from
unfolding outcome
stopped m [] h = λ ps. refl
stopped m (t ∷ ts) h = λ ps. next (exactly m) ps t ts refuses (rw (after, h) refl)

-- no number comes
pub stopped_number : (from : List Token) → ((n : ℕ) (at : Place) (rest : List Token) → from ≡ token (mark.Num n) at ∷ rest → ⊥) → Stops (number ∷ []) from from
unfolding outcome
stopped_number [] h = λ ps. refl
stopped_number (t ∷ ts) h = λ ps. next number ps t ts refuses (other t.mark refl)
  where
    other : (m : Mark) → t.mark ≡ m → after number m ≡ refuses
    other (mark.Num n) e = absurd (h n (record { line = t.line; column = t.column }) ts
        (ap (λ (m : Mark). token m (record { line = t.line; column = t.column }) ∷ ts) e))
    other (mark.Name text) e = refl
    other (mark.Keyword k) e = refl
    other (mark.Symbol s) e = refl

-- no name comes
pub stopped_name : (from : List Token) → ((text : List ℕ) (at : Place) (rest : List Token) → from ≡ token (mark.Name text) at ∷ rest → ⊥) →
    Stops (name ∷ []) from from
unfolding outcome
stopped_name [] h = λ ps. refl
stopped_name (t ∷ ts) h = λ ps. next name ps t ts refuses (other t.mark refl)
  where
    other : (m : Mark) → t.mark ≡ m → after name m ≡ refuses
    other (mark.Name text) e = absurd (h text (record { line = t.line; column = t.column }) ts
        (ap (λ (m : Mark). token m (record { line = t.line; column = t.column }) ∷ ts) e))
    other (mark.Num n) e = refl
    other (mark.Keyword k) e = refl
    other (mark.Symbol s) e = refl

-- an operator comes
pub goes_operator : (s : Symbol) (op : Op) (t : Token) (from rest : List Token) → from ≡ t ∷ rest → t.mark ≡ mark.Symbol s → operation_of s ≡ Some op
    → (qs : List Pending) → outcome (operator ∷ qs) from ≡ outcome qs rest
goes_operator s op t from rest e h is qs = rw e (next operator qs t rest (leaves []) (rw h (rw (after_operator, is) refl)))

-- a symbol comes that is no operator
pub stopped_operator : (s : Symbol) (t : Token) (from rest : List Token) → from ≡ t ∷ rest → t.mark ≡ mark.Symbol s → operation_of s ≡ None →
    Stops (operator ∷ []) from from
stopped_operator s t from rest e h is = λ qs. rw e (next operator qs t rest refuses (rw h (rw (after_operator, is) refl)))

-- no symbol comes
pub stopped_no_symbol : (t : Token) (from rest : List Token) → from ≡ t ∷ rest → ((s : Symbol) → t.mark ≡ mark.Symbol s → ⊥) → Stops (operator ∷ []) from from
stopped_no_symbol t from rest e h = λ qs. rw e (next operator qs t rest refuses (other t.mark refl))
  where
    other : (m : Mark) → t.mark ≡ m → after operator m ≡ refuses
    other (mark.Symbol s) is = absurd (h s is)
    other (mark.Name text) is = refl
    other (mark.Num n) is = refl
    other (mark.Keyword k) is = refl

-- no token comes
pub stopped_end : (from : List Token) → ((t : Token) (ts : List Token) → from ≡ t ∷ ts → ⊥) → Stops (operator ∷ []) from from
unfolding outcome
stopped_end [] none = λ qs. refl
stopped_end (t ∷ ts) none = absurd (none t ts refl)

-- no expression begins so
pub stopped_expression : (from : List Token) → starts (mark.Symbol sign.Tilde) from ≡ false → starts (mark.Symbol sign.RoundOpen) from ≡ false
    → starts (mark.Keyword word.Low) from ≡ false → starts (mark.Keyword word.Pick) from ≡ false → starts (mark.Keyword word.Resize) from ≡ false →
    starts (mark.Keyword word.Fill) from ≡ false
    → starts (mark.Keyword word.Row) from ≡ false → starts (mark.Keyword word.All) from ≡ false → starts (mark.Keyword word.Any) from ≡ false
    → ((n : ℕ) (at : Place) (rest : List Token) → from ≡ token (mark.Num n) at ∷ rest → ⊥) →
    ((text : List ℕ) (at : Place) (rest : List Token) → from ≡ token (mark.Name text) at ∷ rest → ⊥)
    → Stops (expression ∷ []) from from
unfolding outcome
stopped_expression [] tilde round low pick resize fill row all any no_number no_name = λ qs. refl
stopped_expression (t ∷ ts) tilde round low pick resize fill row all any no_number no_name = λ qs. next expression qs t ts refuses (other t.mark refl)
  where
    place : Place
    place = record { line = t.line; column = t.column }

    other : (m : Mark) → t.mark ≡ m → after expression m ≡ refuses
    other (mark.Num n) e = absurd (no_number n place ts (ap (λ (m : Mark). token m place ∷ ts) e))
    other (mark.Name text) e = absurd (no_name text place ts (ap (λ (m : Mark). token m place ∷ ts) e))
    other (mark.Symbol sign.Tilde) e = absurd (let h = sym (ap (same_mark (mark.Symbol sign.Tilde)) e) ∙ tilde in cc)
    other (mark.Symbol sign.RoundOpen) e = absurd (let h = sym (ap (same_mark (mark.Symbol sign.RoundOpen)) e) ∙ round in cc)
    other (mark.Symbol s) e = refl
    other (mark.Keyword word.Low) e = absurd (let h = sym (ap (same_mark (mark.Keyword word.Low)) e) ∙ low in cc)
    other (mark.Keyword word.Pick) e = absurd (let h = sym (ap (same_mark (mark.Keyword word.Pick)) e) ∙ pick in cc)
    other (mark.Keyword word.Resize) e = absurd (let h = sym (ap (same_mark (mark.Keyword word.Resize)) e) ∙ resize in cc)
    other (mark.Keyword word.Fill) e = absurd (let h = sym (ap (same_mark (mark.Keyword word.Fill)) e) ∙ fill in cc)
    other (mark.Keyword word.Row) e = absurd (let h = sym (ap (same_mark (mark.Keyword word.Row)) e) ∙ row in cc)
    other (mark.Keyword word.All) e = absurd (let h = sym (ap (same_mark (mark.Keyword word.All)) e) ∙ all in cc)
    other (mark.Keyword word.Any) e = absurd (let h = sym (ap (same_mark (mark.Keyword word.Any)) e) ∙ any in cc)
    other (mark.Keyword k) e = refl

no_part : (p : Part) (m : Mark) → same_mark (beginning p) m ≡ false → after (perhaps p) m ≡ drops
no_part p m h = rw (after, h) refl

no_more : (p : Part) (m : Mark) → same_mark (beginning p) m ≡ false → after (repeated p) m ≡ drops
no_more p m h = rw (after, h) refl

-- a part that may be left out is, where another token comes
pub left_out : (p : Part) (from : List Token) → starts (beginning p) from ≡ false → (qs : List Pending) → outcome (perhaps p ∷ qs) from ≡ outcome qs from
unfolding outcome
left_out p [] h qs = refl
left_out p (t ∷ ts) h qs = next (perhaps p) qs t ts drops (no_part p t.mark h)

-- a repeated part ends, where another token comes
pub ended : (p : Part) (from : List Token) → starts (beginning p) from ≡ false → (qs : List Pending) → outcome (repeated p ∷ qs) from ≡ outcome qs from
unfolding outcome
ended p [] h qs = refl
ended p (t ∷ ts) h qs = next (repeated p) qs t ts drops (no_more p t.mark h)

pub dropped_indices : (from : List Token) → starts (mark.Symbol sign.SquareOpen) from ≡ false → (qs : List Pending) →
    outcome (indices ∷ qs) from ≡ outcome qs from
dropped_indices from h = ended index from h

pub dropped_arguments : (from : List Token) → starts (mark.Symbol sign.RoundOpen) from ≡ false → (qs : List Pending) →
    outcome (arguments ∷ qs) from ≡ outcome qs from
dropped_arguments from h = left_out argument_list from h

pub dropped_more : (from : List Token) → starts (mark.Symbol sign.Comma) from ≡ false → (qs : List Pending) →
    outcome (more_expressions ∷ qs) from ≡ outcome qs from
dropped_more from h = ended next_expression from h

-- an expression can't be left out
stays : (m : Mark) → after_expression m ≡ drops → ⊥
stays (mark.Num n) h = cc
stays (mark.Name text) h = cc
stays (mark.Symbol sign.Tilde) h = cc
stays (mark.Symbol sign.RoundOpen) h = cc
stays (mark.Symbol s) h = cc
stays (mark.Keyword word.Low) h = cc
stays (mark.Keyword word.Pick) h = cc
stays (mark.Keyword word.Resize) h = cc
stays (mark.Keyword word.Fill) h = cc
stays (mark.Keyword word.Row) h = cc
stays (mark.Keyword word.All) h = cc
stays (mark.Keyword word.Any) h = cc
stays (mark.Keyword k) h = cc

-- an argument comes as an expression does
argument : (m : Mark) → same_mark (mark.Symbol sign.RoundClose) m ≡ false →
    after_arguments m ≡ then_come (after_expression m) (more_expressions ∷ sign_of sign.RoundClose ∷ [])
argument (mark.Symbol sign.RoundClose) h = absurd (cc)
argument (mark.Symbol s) h = refl
argument (mark.Num n) h = refl
argument (mark.Name text) h = refl
argument (mark.Keyword k) h = refl

both_come : (t : Token) (ts : List Token) (qs : List Pending) (a : After) → after_expression t.mark ≡ a →
    after_arguments t.mark ≡ then_come a (more_expressions ∷ sign_of sign.RoundClose ∷ [])
    → outcome (rest_of_arguments ∷ qs) (t ∷ ts) ≡ outcome (expression ∷ more_expressions ∷ sign_of sign.RoundClose ∷ qs) (t ∷ ts)
both_come t ts qs (leaves ps) e h =
    next rest_of_arguments qs t ts (leaves (ps ++ more_expressions ∷ sign_of sign.RoundClose ∷ [])) h
    ∙ ap (λ rs. outcome rs ts) (append_assoc ps (more_expressions ∷ sign_of sign.RoundClose ∷ []) qs)
    ∙ sym (next expression (more_expressions ∷ sign_of sign.RoundClose ∷ qs) t ts (leaves ps) e)
both_come t ts qs drops e h = absurd (stays t.mark e)
both_come t ts qs refuses e h = next rest_of_arguments qs t ts refuses h
    ∙ sym (next expression (more_expressions ∷ sign_of sign.RoundClose ∷ qs) t ts refuses e)

-- where no bracket closes at once an expression comes
pub some_argument : (from : List Token) → starts (mark.Symbol sign.RoundClose) from ≡ false → (qs : List Pending)
    → outcome (rest_of_arguments ∷ qs) from ≡ outcome (expression ∷ more_expressions ∷ sign_of sign.RoundClose ∷ qs) from
unfolding outcome
some_argument [] h qs = refl
some_argument (t ∷ ts) h qs = both_come t ts qs (after_expression t.mark) refl (argument t.mark h)
