-- The rules of tokens one by one, and the law that the definition of a text's tokens follows them.
use Rattle.std.specs.Prelude.{◌≡◌, ◌≢◌, ◌⊎◌, ℕ, ◌+◌, Bool, true, false, not, ◌==◌, ◌&&◌, List, [], ◌∷◌, ◌++◌, length, is_some, Some, None}
use Rattle.std.specs.List.{list_all}
use Rattle.ygg_base.specs.declared.reason.Reason.TheVariants as reason
use Rattle.ygg_base.specs.declared.token.Mark.{Mark}
use Rattle.ygg_base.specs.Lexing.{
  is_lower,
  is_digit,
  is_name_byte,
  is_blank,
  is_past_ascii,
  symbol_of,
  recognized,
  Lexed,
  ended,
  refused,
  token_before,
  line_after,
  column_after,
  tokens_of,
}

-- a byte of a comment after its `#`
abbrev pub is_comment_byte : ℕ → Bool
is_comment_byte b = not (is_past_ascii b) && not (b == 10)

-- a word, a run of digits or a symbol
abbrev pub IsLexeme : List ℕ → Type 0
IsLexeme [] = ⊥
IsLexeme (first ∷ others) =
    ((is_lower first ≡ true) × (list_all is_name_byte others ≡ true))
    ⊎ (((is_digit first ≡ true) × (list_all is_digit others ≡ true))
    ⊎ (is_some (symbol_of (first ∷ others)) ≡ true))

-- of all fronts of these bytes and the rest after them, these bytes are the longest that is a word, a run of digits or a symbol
pub record IsLongest (bytes rest : List ℕ) : Type 0 where
  pub lexeme : IsLexeme bytes
  pub longest : (more others : List ℕ) → rest ≡ more ++ others → IsLexeme (bytes ++ more) → more ≡ []

-- the text begins with no word, run of digits or symbol
abbrev pub BeginsNone : List ℕ → Type 0
BeginsNone text = (bytes others : List ℕ) → text ≡ bytes ++ others → IsLexeme bytes → ⊥

-- the text is at its end, or a line feed follows
abbrev pub EndsLine : List ℕ → Type 0
EndsLine [] = Unit {0}
EndsLine (b ∷ bs) = b ≡ 10

-- What a text gives from a line and column on, by one rule for each way in which it can begin.
pub data Reads : List ℕ → ℕ → ℕ → Lexed → Type 0 where
  -- at its end no token is left
  at_end : (line column : ℕ) → Reads [] line column (ended line column)
  -- a blank separates tokens
  blank : (b : ℕ) (rest : List ℕ) (line column : ℕ) (others : Lexed) → is_blank b ≡ true → Reads rest (line_after b line) (column_after b column) others
      → Reads (b ∷ rest) line column others
  -- a comment goes on up to its line feed
  comment : (words rest : List ℕ) (line column : ℕ) (others : Lexed) → list_all is_comment_byte words ≡ true → EndsLine rest
      → Reads rest line (column + 1 + length words) others → Reads (35 ∷ words ++ rest) line column others
  -- the longest word, run of digits or symbol is a token
  token : (bytes rest : List ℕ) (line column : ℕ) (mark : Mark) (others : Lexed) → IsLongest bytes rest → recognized bytes ≡ Some mark
      → Reads rest line (column + length bytes) others → Reads (bytes ++ rest) line column (token_before (Some mark) line column others)
  -- a run of digits that is no number is refused at its first byte
  no_number : (bytes rest : List ℕ) (line column : ℕ) → IsLongest bytes rest → recognized bytes ≡ None →
      Reads (bytes ++ rest) line column (refused reason.Token line column)
  -- a byte of ASCII that begins nothing is refused
  stray : (b : ℕ) (rest : List ℕ) (line column : ℕ) → is_past_ascii b ≡ false → is_blank b ≡ false → b ≢ 35 → BeginsNone (b ∷ rest)
      → Reads (b ∷ rest) line column (refused reason.Token line column)
  -- a byte past ASCII is refused
  past_ascii : (b : ℕ) (rest : List ℕ) (line column : ℕ) → is_past_ascii b ≡ true → Reads (b ∷ rest) line column (refused reason.NotAscii line column)
  -- in a comment too
  past_ascii_in_comment : (words : List ℕ) (b : ℕ) (rest : List ℕ) (line column : ℕ) → list_all is_comment_byte words ≡ true → is_past_ascii b ≡ true
      → Reads (35 ∷ words ++ b ∷ rest) line column (refused reason.NotAscii line (column + 1 + length words))

-- the rules give what the definition says
abbrev pub FollowsRules : Type 0
FollowsRules = (text : List ℕ) → Reads text 1 1 (tokens_of text)

-- the rules give nothing else
abbrev pub RulesAgree : Type 0
RulesAgree = (text : List ℕ) (answer : Lexed) → Reads text 1 1 answer → answer ≡ tokens_of text
