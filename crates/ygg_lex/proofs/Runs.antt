-- What the definition of tokens gives over a whole token or comment.
use Rattle.std.proofs.Common.{◌≡◌, inl, inr, ℕ, ◌+◌, true, false, not, List, [], ◌∷◌, ◌++◌, length, arith, refl, ◌∙◌, append_assoc, add-zero}
use Rattle.std.specs.List.{list_all}
use Rattle.std.proofs.lemmas.Bool.{and_parts, not-true, cases_Bool}
use Rattle.std.proofs.lemmas.List.{append-nil}
use Rattle.ygg_base.specs.Lexing.{is_past_ascii, extends, closed, lex}
use Rattle.ygg_lex.specs.Rules.{IsLexeme, IsLongest, is_comment_byte}
use Rattle.ygg_lex.proofs.Lexemes.{munch, next_is_ascii, is_false, grows}

-- a byte that makes the part longer
pub step : (part : List ℕ) (b : ℕ) (bs : List ℕ) (begun line column : ℕ) → is_past_ascii b ≡ false → extends part b ≡ true
    → lex part begun line column (b ∷ bs) ≡ lex (part ++ b ∷ []) begun line (column + 1) bs
step part b bs begun line column ascii more = rw (ascii, more) refl

-- the rest of a lexeme
pub run : (first : ℕ) (others more rest : List ℕ) (begun line column : ℕ) → IsLexeme (first ∷ (others ++ more))
    → lex (first ∷ others) begun line column (more ++ rest) ≡ lex (first ∷ (others ++ more)) begun line (column + length more) rest
run first others [] rest begun line column lexeme = rw (append-nil others, add-zero) refl
run first others (b ∷ more) rest begun line column lexeme =
    let whole : others ++ b ∷ [] ++ more ≡ others ++ (b ∷ more) = append_assoc others (b ∷ []) more in
    let later = run first (others ++ b ∷ []) more rest begun line (column + 1) (rw whole lexeme) in
    let columns : column + 1 + length more ≡ column + length (b ∷ more) = omega arith in
    step (first ∷ others) b (more ++ rest) begun line column (next_is_ascii first others b more lexeme) (munch first others b more lexeme)
    ∙ later ∙ rw (whole, columns) refl

-- the rest of a comment's line
pub run_comment : (words more rest : List ℕ) (begun line column : ℕ) → list_all is_comment_byte more ≡ true
    → lex (35 ∷ words) begun line column (more ++ rest) ≡ lex (35 ∷ (words ++ more)) begun line (column + length more) rest
run_comment words [] rest begun line column all = rw (append-nil words, add-zero) refl
run_comment words (b ∷ more) rest begun line column all =
    let each = and_parts (is_comment_byte b) _ all in
    let both = and_parts (not (is_past_ascii b)) _ each.0 in
    let whole : words ++ b ∷ [] ++ more ≡ words ++ (b ∷ more) = append_assoc words (b ∷ []) more in
    let columns : column + 1 + length more ≡ column + length (b ∷ more) = omega arith in
    step (35 ∷ words) b (more ++ rest) begun line column (not-true _ both.0) both.1
    ∙ run_comment (words ++ b ∷ []) more rest begun line (column + 1) each.1 ∙ rw (whole, columns) refl

-- the next byte doesn't make the part longer
abbrev pub Stops : List ℕ → List ℕ → Type 0
Stops part [] = Unit {0}
Stops part (b ∷ bs) = is_past_ascii b ≡ false → extends part b ≡ false

-- what ends a part is read as after no part
pub closes : (part rest : List ℕ) (begun line column c : ℕ) → Stops part rest
    → lex part begun line column rest ≡ closed part line begun (lex [] c line column rest)
closes part [] begun line column c stops = refl
closes part (b ∷ bs) begun line column c stops =
    elim (cases_Bool (is_past_ascii b)) [
      | inl past ↦ rw past refl
      | inr ascii ↦ rw (ascii, stops ascii) refl
    ]

pub longest_stops : (first : ℕ) (others rest : List ℕ) → IsLongest (first ∷ others) rest → Stops (first ∷ others) rest
longest_stops first others [] longest = tt
longest_stops first others (b ∷ bs) longest =
    λ ascii. is_false _ (λ more. let none = longest.longest (b ∷ []) bs refl (grows first others b longest.lexeme more) in absurd (not_nil b [] none))
  where
    not_nil : (b : ℕ) (bs : List ℕ) → b ∷ bs ≡ [] → ⊥
    not_nil b bs is = cc
