-- The rules give only what the definition says.
use Rattle.std.proofs.Common.{◌≡◌, ℕ, ◌+◌, false, ◌==◌, List, [], ◌∷◌, ◌++◌, length, arith, refl, ◌∙◌}
use Rattle.std.proofs.lemmas.Bool.Decides.{nat_tests}
use Rattle.ygg_base.specs.Lexing.{is_past_ascii, is_blank, lex, Lexed, recognized, token_before}
use Rattle.ygg_lex.specs.Rules.{IsLongest, EndsLine, BeginsNone, Reads, at_end, blank, comment, token, no_number, stray, past_ascii, past_ascii_in_comment}
use Rattle.ygg_lex.proofs.Lexemes.{first_of, is_false, not_recognized, pair_is_lexeme}
use Rattle.ygg_lex.proofs.Runs.{run, run_comment, closes, longest_stops, Stops}

-- a byte that begins something
pub begins_part : (b : ℕ) (bs : List ℕ) (c line column : ℕ) → is_past_ascii b ≡ false → is_blank b ≡ false
    → lex [] c line column (b ∷ bs) ≡ lex (b ∷ []) column line (column + 1) bs
begins_part b bs c line column ascii solid = let feed : (b == 10) ≡ false = grind (arith, nat_tests) in rw (ascii, solid, feed) refl

-- a lexeme, and then the rest
lexeme_read : (bytes rest : List ℕ) (c line column : ℕ) → IsLongest bytes rest
    → lex [] c line column (bytes ++ rest) ≡ token_before (recognized bytes) line column (lex [] column line (column + length bytes) rest)
lexeme_read [] rest c line column longest = absurd longest.lexeme
lexeme_read (first ∷ others) rest c line column longest =
    let is = first_of first others longest.lexeme in
    let columns : column + 1 + length others ≡ column + length (first ∷ others) = omega arith in
    begins_part first (others ++ rest) c line column is.ascii is.blank ∙ run first [] others rest column line (column + 1) longest.lexeme
    ∙ closes (first ∷ others) rest column line (column + 1 + length others) column (longest_stops first others rest longest)
    ∙ rw (is.comment, columns) refl

comment_stops : (words rest : List ℕ) → EndsLine rest → Stops (35 ∷ words) rest
comment_stops words [] ends = tt
comment_stops words (b ∷ bs) ends = λ ascii. rw ends refl

stray_stops : (b : ℕ) (rest : List ℕ) → (b == 35) ≡ false → BeginsNone (b ∷ rest) → Stops (b ∷ []) rest
stray_stops b [] sign none = tt
stray_stops b (d ∷ ds) sign none =
    λ ascii. is_false _ (λ more. none (b ∷ d ∷ []) ds refl (pair_is_lexeme b d (none (b ∷ []) (d ∷ ds) refl) sign more))

pub agree : {text : List ℕ} {line column : ℕ} {answer : Lexed} → Reads text line column answer → (c : ℕ) → lex [] c line column text ≡ answer
agree (at_end line column) c = refl
agree (blank b rest line column others is later) c =
    let ascii : is_past_ascii b ≡ false = grind (arith, nat_tests) in
    rw (ascii, is) (agree later column)
agree (comment words rest line column others all ends later) c =
    run_comment [] words rest column line (column + 1) all
    ∙ closes (35 ∷ words) rest column line (column + 1 + length words) column (comment_stops words rest ends) ∙ agree later column
agree (token bytes rest line column mark others longest is later) c =
    lexeme_read bytes rest c line column longest ∙ rw (is, agree later column) refl
agree (no_number bytes rest line column longest is) c = lexeme_read bytes rest c line column longest ∙ rw is refl
agree (stray b rest line column ascii solid sign none) c =
    let other : (b == 35) ≡ false = grind (arith, nat_tests) in
    begins_part b rest c line column ascii solid
    ∙ closes (b ∷ []) rest column line (column + 1) column (stray_stops b rest other none)
    ∙ rw (other, not_recognized b (none (b ∷ []) rest refl)) refl
agree (past_ascii b rest line column past) c = rw past refl
agree (past_ascii_in_comment words b rest line column all past) c =
    run_comment [] words (b ∷ rest) column line (column + 1) all ∙ rw past refl
