-- Two marks with no space between them stay two tokens.
use Rattle.std.proofs.Common.{◌≡◌, ◌⊎◌, inl, inr, ℕ, Bool, true, false, not, ◌&&◌, ◌||◌, ◌==◌, List, [], ◌∷◌, refl, ap, sym, ◌∙◌, arith}
use Rattle.std.proofs.lemmas.Bool.{cases_Bool}
use Rattle.std.proofs.lemmas.Bool.Decides.{nat_tests}
use Rattle.ygg_base.specs.declared.token.Symbol.TheVariants as symbol
use Rattle.ygg_base.specs.declared.token.Mark.{Mark}
use Rattle.ygg_base.specs.declared.token.Mark.TheVariants as mark
use Rattle.ygg_base.specs.Spelling.{mark_bytes}
use Rattle.ygg_base.specs.Lexing.{is_lower, is_digit, is_name_byte, extends}
use Rattle.ygg_lex.proofs.Symbols.{is_pair, pair_is, sign_ends}
use Rattle.ygg_print.specs.Layout.{is_joined, joins_next, joins_previous, takes_arguments, is_round_open, is_colon, is_number, is_next}
use Rattle.ygg_print.proofs.Readable.{Readable}

-- a byte that stands in no word, no number and no symbol after its first byte
abbrev pub is_inert : ℕ → Bool
is_inert b = not (is_name_byte b) && (not (b == 60) && (not (b == 61) && not (b == 62)))

inert_name : (b : ℕ) → is_inert b ≡ true → is_name_byte b ≡ false
inert_name b inert = grind (arith, nat_tests)

inert_digit : (b : ℕ) → is_inert b ≡ true → is_digit b ≡ false
inert_digit b inert = grind (arith, nat_tests)

inert_pair : (a b : ℕ) → is_inert b ≡ true → is_pair a b ≡ false
inert_pair a b inert = grind (arith, nat_tests)

-- a byte that isn't `#` and begins neither a word nor a number
sign_inert : (first : ℕ) (others : List ℕ) (b : ℕ) → (first == 35) ≡ false → is_lower first ≡ false → is_digit first ≡ false → is_inert b ≡ true →
    extends (first ∷ others) b ≡ false
sign_inert first [] b comment lower digit inert = rw (comment, lower, digit) (pair_is first b ∙ inert_pair first b inert)
sign_inert first (second ∷ others) b comment lower digit inert = sign_ends first (second ∷ others) b (λ is. grind (arith, nat_tests)) lower digit (omega arith)

-- no token is made longer by such a byte
pub inert_ends : (first : ℕ) (others : List ℕ) (b : ℕ) → (first == 35) ≡ false → is_inert b ≡ true → extends (first ∷ others) b ≡ false
inert_ends first others b comment inert =
    elim (cases_Bool (is_lower first)) [
      | inl lower ↦ rw (comment, lower) (inert_name b inert)
      | inr other ↦ elim (cases_Bool (is_digit first)) [
        | inl digit ↦ rw (comment, other, digit) (inert_digit b inert)
        | inr none ↦ sign_inert first others b comment other none inert
      ]
    ]

-- a byte that is a symbol and begins no longer one
abbrev is_whole : ℕ → Bool
is_whole a = not (is_lower a) && (not (is_digit a)
    && (not (a == 35) && (not (a == 33) && (not (a == 45) && (not (a == 60) && (not (a == 61) && not (a == 62)))))))

whole_ends : (a b : ℕ) → is_whole a ≡ true → extends (a ∷ []) b ≡ false
whole_ends a b whole = let pair = pair_is a b in grind (arith, nat_tests)

-- no byte makes these marks longer
ends_itself : (a : Mark) (b : ℕ) → (joins_next a || is_colon a) ≡ true → extends (mark_bytes a) b ≡ false
ends_itself (mark.Symbol symbol.RoundOpen) b is = whole_ends 40 b refl
ends_itself (mark.Symbol symbol.SquareOpen) b is = whole_ends 91 b refl
ends_itself (mark.Symbol symbol.Colon) b is = whole_ends 58 b refl
ends_itself (mark.Symbol symbol.Dot) b is = whole_ends 46 b refl
ends_itself (mark.Symbol symbol.Tilde) b is = whole_ends 126 b refl
ends_itself _ b is = absurd (cc)

-- the first of these bytes stands in no token after its first byte
abbrev begins_inert : List ℕ → Bool
begins_inert [] = true
begins_inert (b ∷ bs) = is_inert b

inert_begin : (b : Mark) → (joins_previous b || (is_round_open b || is_colon b)) ≡ true → begins_inert (mark_bytes b) ≡ true
inert_begin (mark.Symbol symbol.RoundOpen) is = refl
inert_begin (mark.Symbol symbol.RoundClose) is = refl
inert_begin (mark.Symbol symbol.SquareOpen) is = refl
inert_begin (mark.Symbol symbol.SquareClose) is = refl
inert_begin (mark.Symbol symbol.Semicolon) is = refl
inert_begin (mark.Symbol symbol.Colon) is = refl
inert_begin (mark.Symbol symbol.Comma) is = refl
inert_begin (mark.Symbol symbol.Dot) is = refl
inert_begin _ is = absurd (cc)

-- one of the two marks of a joint parts them
either : (next previous takes round colon number other_colon other_number : Bool) →
    (next || (previous || ((takes && round) || ((colon && number) || (other_colon && other_number))))) ≡ true
    → ((next || colon) ≡ true) ⊎ ((previous || (round || other_colon)) ≡ true)
either true previous takes round colon number other_colon other_number is = inl refl
either false true takes round colon number other_colon other_number is = inr refl
either false false takes true colon number other_colon other_number is = inr refl
either false false takes false true number other_colon other_number is = inl refl
either false false takes false false number true other_number is = inr refl
either false false true false false number false other_number is = absurd (cc)
either false false false false false number false other_number is = absurd (cc)

-- two marks with no space between them stay two tokens
pub stay_two : (a b : Mark) (ra : Readable a) (rb : Readable b) (others : List Mark) → (ra.first == 35) ≡ false → is_joined a b others ≡ true →
    extends (ra.first ∷ ra.others) rb.first ≡ false
stay_two a b ra rb others comment joined =
    elim (either (joins_next a) (joins_previous b) (takes_arguments a) (is_round_open b) (is_colon a) (is_number b) (is_colon b)
    (is_next is_number others) joined) [
      | inl is ↦ ap (λ (bytes : List ℕ). extends bytes rb.first) (sym ra.spelling) ∙ ends_itself a rb.first is
      | inr is ↦ inert_ends ra.first ra.others rb.first comment (ap begins_inert (sym rb.spelling) ∙ inert_begin b is)
    ]
