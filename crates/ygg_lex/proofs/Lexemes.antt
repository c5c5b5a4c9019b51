-- Which bytes make a word, a run of digits or a symbol longer.
use Rattle.std.proofs.Common.{◌≡◌, inl, inr, ℕ, Bool, true, false, not, ◌&&◌, ◌==◌, is_some, List, [], ◌∷◌, ◌++◌, Option, Some, None, arith, refl, ap, sym, ◌∙◌}
use Rattle.std.specs.List.{list_all}
use Rattle.std.specs.Str.{bytes_eq}
use Rattle.std.proofs.lemmas.Bool.{and_parts, both_ways, not-true}
use Rattle.std.proofs.lemmas.Bool.Decides.{nat_tests}
use Rattle.std.proofs.lemmas.Slice.Eq.{bytes_eq-Decides}
use Rattle.ygg_base.specs.Spelling.{symbol_bytes, symbols}
use Rattle.ygg_base.specs.Lexing.{is_lower, is_digit, is_name_byte, is_blank, is_past_ascii, spelled, symbol_of, extends, recognized}
use Rattle.ygg_lex.specs.Rules.{IsLexeme}
use Rattle.ygg_lex.proofs.Symbols.{longer_is_none}

and_left : (a b : Bool) → (a && b) ≡ true → a ≡ true
and_left a b both = (and_parts a b both).0

and_right : (a b : Bool) → (a && b) ≡ true → b ≡ true
and_right a b both = (and_parts a b both).1

pub is_false : (b : Bool) → (b ≡ true → ⊥) → b ≡ false
is_false true h = absurd (h refl)
is_false false h = refl

none_from : {A : Type 0} (o : Option A) → is_some o ≡ false → o ≡ None
none_from None h = refl
none_from (Some a) h = cc

-- what holds of each spelling holds of bytes that are one
spelled_keeps : {A : Type 0} (P : List ℕ → Bool) (spelling : A → List ℕ) (all : List A) (part : List ℕ) → list_all (λ a. P (spelling a)) all ≡ true
    → is_some (spelled spelling all part) ≡ true → P part ≡ true
spelled_keeps P spelling [] part each some = cc
spelled_keeps P spelling (a ∷ others) part each some =
    by_test (bytes_eq (spelling a) part) refl (spelled_keeps P spelling others part (and_right (P (spelling a)) _ each))
  where
    by_test : (same : Bool) → bytes_eq (spelling a) part ≡ same → (is_some (spelled spelling others part) ≡ true → P part ≡ true) → P part ≡ true
    by_test true is later = ap P (sym ((bytes_eq-Decides (spelling a) part).0 is)) ∙ and_left (P (spelling a)) _ each
    by_test false is later = later (rw is at some)

-- a byte of ASCII
abbrev pub is_ascii : ℕ → Bool
is_ascii b = not (is_past_ascii b)

-- the first byte is no letter, no digit, no blank and no `#`, and all bytes are of ASCII
abbrev is_sign : List ℕ → Bool
is_sign [] = false
is_sign (first ∷ others) =
    not (is_lower first) && (not (is_digit first) && (not (is_blank first) && (not (first == 35) && list_all is_ascii (first ∷ others))))

-- what is known of a symbol's bytes
record Sign (first : ℕ) (others : List ℕ) : Type 0 where
  pub lower : is_lower first ≡ false
  pub digit : is_digit first ≡ false
  pub blank : is_blank first ≡ false
  pub comment : (first == 35) ≡ false
  pub ascii : list_all is_ascii (first ∷ others) ≡ true

sign_of : (first : ℕ) (others : List ℕ) → is_some (symbol_of (first ∷ others)) ≡ true → Sign first others
sign_of first others some =
    let all : is_sign (first ∷ others) ≡ true = spelled_keeps is_sign symbol_bytes symbols (first ∷ others) refl some in
    let a = and_right (not (is_lower first)) _ all in
    let b = and_right (not (is_digit first)) _ a in
    let c = and_right (not (is_blank first)) _ b in
    record {
      lower = not-true _ (and_left (not (is_lower first)) _ all);
      digit = not-true _ (and_left (not (is_digit first)) _ a);
      blank = not-true _ (and_left (not (is_blank first)) _ b);
      comment = not-true _ (and_left (not (first == 35)) _ c);
      ascii = and_right (not (first == 35)) _ c;
    }

all_weaker : (p q : ℕ → Bool) → ((b : ℕ) → p b ≡ true → q b ≡ true) → (bytes : List ℕ) → list_all p bytes ≡ true → list_all q bytes ≡ true
all_weaker p q weaker [] all = refl
all_weaker p q weaker (b ∷ bs) all =
    rw (weaker b (and_left (p b) _ all)) (all_weaker p q weaker bs (and_right (p b) _ all))

-- a byte between others
pub all_between : (p : ℕ → Bool) (before : List ℕ) (b : ℕ) (after : List ℕ) → list_all p (before ++ b ∷ after) ≡ true → p b ≡ true
all_between p [] b after all = and_left (p b) _ all
all_between p (a ∷ before) b after all = all_between p before b after (and_right (p a) _ all)

pub all_more : (p : ℕ → Bool) (before : List ℕ) (b : ℕ) → list_all p before ≡ true → p b ≡ true → list_all p (before ++ b ∷ []) ≡ true
all_more p [] b all more = rw more refl
all_more p (a ∷ before) b all more = rw (and_left (p a) _ all) (all_more p before b (and_right (p a) _ all) more)

extends_word : (first : ℕ) (others : List ℕ) (b : ℕ) → is_lower first ≡ true → extends (first ∷ others) b ≡ is_name_byte b
extends_word first others b lower = let comment : (first == 35) ≡ false = grind (arith, nat_tests) in rw (comment, lower) refl

extends_digits : (first : ℕ) (others : List ℕ) (b : ℕ) → is_digit first ≡ true → extends (first ∷ others) b ≡ is_digit b
extends_digits first others b digit =
    let comment : (first == 35) ≡ false = grind (arith, nat_tests) in
    let lower : is_lower first ≡ false = grind (arith, nat_tests) in
    rw (comment, lower, digit) refl

extends_sign : (first : ℕ) (others : List ℕ) (b : ℕ) → (first == 35) ≡ false → is_lower first ≡ false → is_digit first ≡ false
    → extends (first ∷ others) b ≡ is_some (symbol_of (first ∷ others ++ b ∷ []))
extends_sign first others b comment lower digit = rw (comment, lower, digit) refl

-- no symbol has a third byte
not_third : (a b c : ℕ) (others : List ℕ) → is_some (symbol_of (a ∷ b ∷ c ∷ others)) ≡ true → ⊥
not_third a b c others some = both_ways _ (ap is_some (longer_is_none a b c others)) some

-- the next byte of a lexeme belongs to it
pub munch : (first : ℕ) (others : List ℕ) (b : ℕ) (more : List ℕ) → IsLexeme (first ∷ (others ++ b ∷ more)) → extends (first ∷ others) b ≡ true
munch first others b more (inl word) = extends_word first others b word.0 ∙ all_between is_name_byte others b more word.1
munch first others b more (inr (inl digits)) = extends_digits first others b digits.0 ∙ all_between is_digit others b more digits.1
munch first [] b [] (inr (inr sign)) =
    let is = sign_of first (b ∷ []) sign in extends_sign first [] b is.comment is.lower is.digit ∙ sign
munch first [] b (c ∷ more) (inr (inr sign)) = absurd (not_third first b c more sign)
munch first (x ∷ []) b more (inr (inr sign)) = absurd (not_third first x b more sign)
munch first (x ∷ y ∷ others) b more (inr (inr sign)) = absurd (not_third first x y (others ++ b ∷ more) sign)

-- a lexeme that a byte makes longer is one
pub grows : (first : ℕ) (others : List ℕ) (b : ℕ) → IsLexeme (first ∷ others) → extends (first ∷ others) b ≡ true → IsLexeme (first ∷ (others ++ b ∷ []))
grows first others b (inl word) more = inl (word.0, all_more is_name_byte others b word.1 (sym (extends_word first others b word.0) ∙ more))
grows first others b (inr (inl digits)) more = inr (inl (digits.0, all_more is_digit others b digits.1 (sym (extends_digits first others b digits.0) ∙ more)))
grows first others b (inr (inr sign)) more =
    let is = sign_of first others sign in inr (inr (sym (extends_sign first others b is.comment is.lower is.digit) ∙ more))

-- all bytes of a lexeme are of ASCII
all_ascii : (first : ℕ) (others : List ℕ) → IsLexeme (first ∷ others) → list_all is_ascii (first ∷ others) ≡ true
all_ascii first others (inl word) =
    let one : is_ascii first ≡ true = let lower = word.0 in grind (arith, nat_tests) in
    rw one (all_weaker is_name_byte is_ascii (λ b name. grind (arith, nat_tests)) others word.1)
all_ascii first others (inr (inl digits)) =
    let one : is_ascii first ≡ true = let digit = digits.0 in grind (arith, nat_tests) in
    rw one (all_weaker is_digit is_ascii (λ b digit. grind (arith, nat_tests)) others digits.1)
all_ascii first others (inr (inr sign)) = (sign_of first others sign).ascii

pub next_is_ascii : (first : ℕ) (others : List ℕ) (b : ℕ) (more : List ℕ) → IsLexeme (first ∷ (others ++ b ∷ more)) → is_past_ascii b ≡ false
next_is_ascii first others b more lexeme = not-true _ (all_between is_ascii (first ∷ others) b more (all_ascii first (others ++ b ∷ more) lexeme))

-- what is known of the first byte of a lexeme
pub record First (first : ℕ) : Type 0 where
  pub ascii : is_past_ascii first ≡ false
  pub blank : is_blank first ≡ false
  pub comment : (first == 35) ≡ false

pub first_of : (first : ℕ) (others : List ℕ) → IsLexeme (first ∷ others) → First first
first_of first others (inl word) = let lower = word.0 in
    record { ascii = grind (arith, nat_tests); blank = grind (arith, nat_tests); comment = grind (arith, nat_tests) }
first_of first others (inr (inl digits)) = let digit = digits.0 in
    record { ascii = grind (arith, nat_tests); blank = grind (arith, nat_tests); comment = grind (arith, nat_tests) }
first_of first others (inr (inr sign)) =
    let is = sign_of first others sign in
    record { ascii = not-true _ (and_left (is_ascii first) _ is.ascii); blank = is.blank; comment = is.comment }

-- a byte that is no lexeme
pub record Alone (b : ℕ) : Type 0 where
  pub lower : is_lower b ≡ false
  pub digit : is_digit b ≡ false
  pub symbol : symbol_of (b ∷ []) ≡ None

pub alone : (b : ℕ) → (IsLexeme (b ∷ []) → ⊥) → Alone b
alone b none = record {
  lower = is_false _ (λ lower. none (inl (lower, refl)));
  digit = is_false _ (λ digit. none (inr (inl (digit, refl))));
  symbol = none_from _ (is_false _ (λ some. none (inr (inr some))));
}

-- a byte that is no lexeme is no token
pub not_recognized : (b : ℕ) → (IsLexeme (b ∷ []) → ⊥) → recognized (b ∷ []) ≡ None
not_recognized b none = let is = alone b none in rw (is.lower, is.digit, is.symbol) refl

-- two bytes of which the first is no lexeme
pub pair_is_lexeme : (a b : ℕ) → (IsLexeme (a ∷ []) → ⊥) → (a == 35) ≡ false → extends (a ∷ []) b ≡ true → IsLexeme (a ∷ b ∷ [])
pair_is_lexeme a b none comment more =
    let is = alone a none in inr (inr (sym (extends_sign a [] b comment is.lower is.digit) ∙ more))
