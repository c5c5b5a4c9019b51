-- The tokens of a text have marks of the language.
use Rattle.std.proofs.Common.{
  ◌≡◌,
  ◌==◌,
  ◌++◌,
  append_assoc,
  ℕ,
  ◌^◌,
  Bool,
  true,
  false,
  not,
  ◌&&◌,
  nat_lt,
  List,
  [],
  ◌∷◌,
  map,
  Option,
  Some,
  None,
  Ok,
  Err,
  refl,
  subst,
  arith,
}
use Rattle.std.specs.Prelude.{option_map, if◌then◌else◌}
use Rattle.std.specs.List.{All, list_all}
use Rattle.std.proofs.lemmas.List.Elements.{All-nil, All-cons}
use Rattle.std.proofs.lemmas.Bool.Decides.{nat_tests}
use Rattle.ygg_base.specs.declared.token.Keyword.{Keyword}
use Rattle.ygg_base.specs.declared.token.Symbol.{Symbol}
use Rattle.ygg_base.specs.declared.token.Mark.{Mark}
use Rattle.ygg_base.specs.declared.token.Mark.TheVariants as mark
use Rattle.ygg_base.specs.declared.token.Token.{Token}
use Rattle.ygg_base.specs.declared.tokens.Tokens.{Tokens}
use Rattle.ygg_base.specs.Lexing.{
  Lexed,
  tokens_of,
  token_before,
  recognized,
  keyword_of,
  symbol_of,
  number_of,
  has_leading_zero,
  value_after,
  word_of,
  is_lower,
  is_digit,
  is_name_byte,
}
use Rattle.ygg_lex.specs.Rules.{IsLexeme, Reads, at_end, blank, comment, token, no_number, stray, past_ascii, past_ascii_in_comment}
use Rattle.ygg_lex.proofs.Follows.{follows}
use Rattle.ygg_lex.proofs.Lexemes.{munch}
use Rattle.ygg_print.specs.TreeLaws.{IsMark}

-- a mark of the language, where there is one
abbrev IsMaybeMark : Option Mark → Type 0
IsMaybeMark None = Unit {0}
IsMaybeMark (Some m) = IsMark m

sign_mark : (found : Option Symbol) → IsMaybeMark (option_map (λ symbol. mark.Symbol symbol) found)
sign_mark None = tt
sign_mark (Some sign) = tt

-- a number is below 2 ^ 64
number_mark : (digits : List ℕ) → IsMaybeMark (option_map (λ number. mark.Num number) (number_of digits))
number_mark digits = by_test (not (has_leading_zero digits)) (nat_lt (value_after 0 digits) (2 ^ 64)) refl
  where
    by_test : (plain small : Bool) → nat_lt (value_after 0 digits) (2 ^ 64) ≡ small
        → IsMaybeMark (option_map (λ number. mark.Num number) (if plain && small then Some (value_after 0 digits) else None))
    by_test false small is = tt
    by_test true false is = tt
    by_test true true is = grind (arith, nat_tests)

-- a word is a keyword, or else a name
word_mark : (first : ℕ) (others : List ℕ) → is_lower first ≡ true → list_all is_name_byte others ≡ true → IsMark (word_of (first ∷ others))
word_mark first others lower bytes = by_keyword (keyword_of (first ∷ others)) refl
  where
    by_keyword : (found : Option Keyword) → keyword_of (first ∷ others) ≡ found →
        IsMark (elim found [ Some keyword ↦ mark.Keyword keyword | None ↦ mark.Name (first ∷ others) ])
    by_keyword (Some keyword) is = tt
    by_keyword None is = (lower, (bytes, is))

-- after a letter each byte of a lexeme is one of a name
name_bytes : (first : ℕ) (others more : List ℕ) → is_lower first ≡ true → IsLexeme (first ∷ (others ++ more)) → list_all is_name_byte more ≡ true
name_bytes first others [] lower lexeme = refl
name_bytes first others (b ∷ more) lower lexeme =
    let comment : (first == 35) ≡ false = grind (arith, nat_tests) in
    let name : is_name_byte b ≡ true = rw (comment, lower) at (munch first others b more lexeme) in
    let whole : others ++ b ∷ [] ++ more ≡ others ++ (b ∷ more) = append_assoc others (b ∷ []) more in
    rw name (name_bytes first (others ++ b ∷ []) more lower (rw whole lexeme))

lexeme_mark : (bytes : List ℕ) → IsLexeme bytes → IsMaybeMark (recognized bytes)
lexeme_mark [] lexeme = absurd lexeme
lexeme_mark (first ∷ others) lexeme = by_kind (is_lower first) (is_digit first) refl
  where
    by_kind : (lower digit : Bool) → is_lower first ≡ lower
        → IsMaybeMark (if lower then Some (word_of (first ∷ others)) else if digit then option_map (λ number. mark.Num number)
        (number_of (first ∷ others)) else option_map (λ symbol. mark.Symbol symbol) (symbol_of (first ∷ others)))
    by_kind true digit is = word_mark first others is (name_bytes first [] others is lexeme)
    by_kind false true is = number_mark (first ∷ others)
    by_kind false false is = sign_mark (symbol_of (first ∷ others))

-- all marks of the tokens are marks of the language, where there are tokens
abbrev AreMarks : Lexed → Type 0
AreMarks (Ok found) = All IsMark (map (λ (token : Token). token.mark) found.items)
AreMarks (Err refusal) = Unit {0}

one_more : (m : Mark) (line column : ℕ) (others : Lexed) → IsMark m → AreMarks others → AreMarks (token_before (Some m) line column others)
one_more m line column (Ok found) is are = All-cons IsMark m (map (λ (token : Token). token.mark) found.items) is are
one_more m line column (Err refusal) is are = tt

read_marks : {text : List ℕ} {line column : ℕ} {answer : Lexed} → Reads text line column answer → AreMarks answer
read_marks (at_end line column) = All-nil IsMark
read_marks (blank b rest line column others is later) = read_marks later
read_marks (comment words rest line column others all ends later) = read_marks later
read_marks (token bytes rest line column m others longest is later) =
    one_more m line column others (subst IsMaybeMark is (lexeme_mark bytes longest.lexeme)) (read_marks later)
read_marks (no_number bytes rest line column longest is) = tt
read_marks (stray b rest line column ascii solid sign none) = tt
read_marks (past_ascii b rest line column past) = tt
read_marks (past_ascii_in_comment words b rest line column all past) = tt

pub tokens_are : (text : List ℕ) (found : Tokens) → tokens_of text ≡ Ok found → All IsMark (map (λ (token : Token). token.mark) found.items)
tokens_are text found is = subst AreMarks is (read_marks (follows text))
