-- Whether a byte makes a token longer, by the first byte of the token.
use Rattle.std.proofs.Common.{◌≡◌, ◌≢◌, ℕ, Bool, true, false, nat_eq, not, if◌then◌else◌, List, [], ◌∷◌, ◌++◌, length, is_some, refl, sym, ap, ◌∙◌, arith}
use Rattle.std.proofs.lemmas.Bool.{ne_eqb}
use Rattle.ygg_base.specs.Lexing.{extends, is_lower, is_digit, is_name_byte, symbol_of}

-- the kinds of its first byte decide
by_kinds : (a : ℕ) (others : List ℕ) (b : ℕ) (comment letter digit : Bool) → nat_eq a 35 ≡ comment → is_lower a ≡ letter → is_digit a ≡ digit →
    extends (a ∷ others) b ≡ (if comment then not (nat_eq b 10) else if letter then is_name_byte b else if digit then is_digit b
    else is_some (symbol_of (a ∷ others ++ b ∷ [])))
by_kinds a others b comment letter digit e f g =
    let symbol = is_some (symbol_of (a ∷ others ++ b ∷ [])) in
    ap (λ t. if t then not (nat_eq b 10) else if is_lower a then is_name_byte b else if is_digit a then is_digit b else symbol) e
    ∙ ap (λ t. if comment then not (nat_eq b 10) else if t then is_name_byte b else if is_digit a then is_digit b else symbol) f
    ∙ ap (λ t. if comment then not (nat_eq b 10) else if letter then is_name_byte b else if t then is_digit b else symbol) g

-- of no bytes none makes a longer token
pub longer_none : (part : List ℕ) (b : ℕ) → length part ≡ 0 → false ≡ extends part b
longer_none [] b e = refl
longer_none (a ∷ others) b e = absurd (omega (arith, e))

pub longer_comment : (a : ℕ) (others : List ℕ) (b : ℕ) → a ≡ 35 → not (nat_eq b 10) ≡ extends (a ∷ others) b
longer_comment a others b e = sym (ap (λ f. extends (f ∷ others) b) e)

pub longer_name : (a : ℕ) (others : List ℕ) (b : ℕ) → a ≢ 35 → is_lower a ≡ true → is_name_byte b ≡ extends (a ∷ others) b
longer_name a others b e f = sym (by_kinds a others b false true (is_digit a) (ne_eqb a 35 e) f refl)

pub longer_number : (a : ℕ) (others : List ℕ) (b : ℕ) → a ≢ 35 → is_lower a ≡ false → is_digit a ≡ true → is_digit b ≡ extends (a ∷ others) b
longer_number a others b e f g = sym (by_kinds a others b false false true (ne_eqb a 35 e) f g)

pub longer_symbol : (a : ℕ) (others : List ℕ) (b : ℕ) → a ≢ 35 → is_lower a ≡ false → is_digit a ≡ false → length others ≡ 0 →
    is_some (symbol_of (a ∷ b ∷ [])) ≡ extends (a ∷ others) b
longer_symbol a [] b e f g none = sym (by_kinds a [] b false false false (ne_eqb a 35 e) f g)
longer_symbol a (c ∷ others) b e f g none = absurd (omega (arith, none))
