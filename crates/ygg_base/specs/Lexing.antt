-- What the tokens of a text are, or why it is refused.
use Rattle.std.specs.Prelude.{
  ℕ,
  ◌+◌,
  ◌*◌,
  ◌-◌,
  ◌^◌,
  Bool,
  true,
  false,
  not,
  ◌==◌,
  ◌||◌,
  ◌&&◌,
  nat_le,
  nat_lt,
  if◌then◌else◌,
  List,
  [],
  ◌∷◌,
  ◌++◌,
  Option,
  Some,
  None,
  option_map,
  is_some,
  Result,
  Ok,
  Err,
}
use Rattle.std.specs.Str.{bytes_eq}
use Rattle.ygg_base.specs.declared.failure.Refusal.{Refusal}
use Rattle.ygg_base.specs.declared.reason.Reason.{Reason}
use Rattle.ygg_base.specs.declared.reason.Reason.TheVariants as reason
use Rattle.ygg_base.specs.declared.token.Keyword.{Keyword}
use Rattle.ygg_base.specs.declared.token.Symbol.{Symbol}
use Rattle.ygg_base.specs.declared.token.Mark.{Mark}
use Rattle.ygg_base.specs.declared.token.Mark.TheVariants as mark
use Rattle.ygg_base.specs.declared.token.Token.{Token}
use Rattle.ygg_base.specs.declared.tokens.Tokens.{Tokens}
use Rattle.ygg_base.specs.Reason.{refusal_at}
use Rattle.ygg_base.specs.Spelling.{keyword_bytes, symbol_bytes, keywords, symbols}

-- a lower-case letter
abbrev pub is_lower : ℕ → Bool
is_lower b = nat_le 97 b && nat_le b 122

-- a decimal digit
abbrev pub is_digit : ℕ → Bool
is_digit b = nat_le 48 b && nat_le b 57

-- a byte of a name after its first: a lower-case letter, a digit or `_`
abbrev pub is_name_byte : ℕ → Bool
is_name_byte b = is_lower b || is_digit b || b == 95

-- a space, a tab, a carriage return or a line feed
abbrev pub is_blank : ℕ → Bool
is_blank b = b == 32 || b == 9 || b == 13 || b == 10

-- no byte of ASCII
abbrev pub is_past_ascii : ℕ → Bool
is_past_ascii b = nat_le 128 b

-- no bytes
abbrev pub is_empty : List ℕ → Bool
is_empty [] = true
is_empty (b ∷ bs) = false

-- the first of these that is spelled with these bytes
abbrev pub spelled : {A : Type 0} → (A → List ℕ) → List A → List ℕ → Option A
spelled spelling [] part = None
spelled spelling (one ∷ others) part = if bytes_eq (spelling one) part then Some one else spelled spelling others part

-- the keyword of these bytes
abbrev pub keyword_of : List ℕ → Option Keyword
keyword_of part = spelled keyword_bytes keywords part

-- the symbol of these bytes
abbrev pub symbol_of : List ℕ → Option Symbol
symbol_of part = spelled symbol_bytes symbols part

-- the number that these decimal digits give after the digits of another
abbrev pub value_after : ℕ → List ℕ → ℕ
value_after number [] = number
value_after number (digit ∷ digits) = value_after (10 * number + (digit - 48)) digits

-- several digits of which the first is 0
abbrev pub has_leading_zero : List ℕ → Bool
has_leading_zero [] = false
has_leading_zero (digit ∷ digits) = digit == 48 && not (is_empty digits)

-- the number of these digits, which has no leading zero and is below 2 ^ 64
abbrev pub number_of : List ℕ → Option ℕ
number_of digits =
    if not (has_leading_zero digits) && nat_lt (value_after 0 digits) (2 ^ 64) then Some (value_after 0 digits) else None

-- the keyword of these bytes, or else their name
abbrev pub word_of : List ℕ → Mark
word_of part = elim (keyword_of part) [ Some keyword ↦ mark.Keyword keyword | None ↦ mark.Name part ]

-- whether a byte makes the token or the comment that begins with these bytes longer: a comment goes on up to its line feed, a word by letters, digits
-- and `_`, a run of digits by
-- digits, and a sign where both bytes are a symbol
abbrev pub extends : List ℕ → ℕ → Bool
extends [] b = false
extends (first ∷ others) b =
    if first == 35 then not (b == 10)
    else if is_lower first then is_name_byte b
    else if is_digit first then is_digit b
    else is_some (symbol_of (first ∷ others ++ b ∷ []))

-- the token of these bytes, unless they are none
abbrev pub recognized : List ℕ → Option Mark
recognized [] = None
recognized (first ∷ others) =
    if is_lower first then Some (word_of (first ∷ others))
    else if is_digit first then option_map (λ number. mark.Num number) (number_of (first ∷ others))
    else option_map (λ symbol. mark.Symbol symbol) (symbol_of (first ∷ others))

-- tokens with the end of the text, or a refusal
abbrev pub Lexed : Type 0
Lexed = Result Tokens Refusal

-- a refusal at its place
abbrev pub refused : Reason → ℕ → ℕ → Lexed
refused why line column = Err (refusal_at why line column)

-- no token up to the end of the text
abbrev pub ended : ℕ → ℕ → Lexed
ended line column = Ok (record { items = []; line = line; column = column })

-- these tokens, and then others
abbrev pub after_these : List Token → Lexed → Lexed
after_these items (Ok others) = Ok (record others { items = items ++ others.items })
after_these items (Err refusal) = Err refusal

-- the token at this place, and then others; bytes that are no token are refused there
abbrev pub token_before : Option Mark → ℕ → ℕ → Lexed → Lexed
token_before None line column others = refused reason.Token line column
token_before (Some what) line column others = after_these (record { mark = what; line = line; column = column } ∷ []) others

-- the token of the bytes before this, if there are any and they are no comment, and then others
abbrev pub closed : List ℕ → ℕ → ℕ → Lexed → Lexed
closed [] line column others = others
closed (first ∷ more) line column others = if first == 35 then others else token_before (recognized (first ∷ more)) line column others

-- the bytes that begin with this one: a blank begins nothing
abbrev pub begin : ℕ → List ℕ
begin b = if is_blank b then [] else b ∷ []

-- the line of what follows a byte
abbrev pub line_after : ℕ → ℕ → ℕ
line_after b line = if b == 10 then line + 1 else line

-- the column of what follows a byte
abbrev pub column_after : ℕ → ℕ → ℕ
column_after b column = if b == 10 then 1 else column + 1

-- What is left of a text gives, after these bytes of a token or comment that has begun in that column of the line; the next byte stands in the column
-- after them.
abbrev pub lex : List ℕ → ℕ → ℕ → ℕ → List ℕ → Lexed
lex part begun line column [] = closed part line begun (ended line column)
lex part begun line column (b ∷ bs) =
    if is_past_ascii b then closed part line begun (refused reason.NotAscii line column)
    else if extends part b then lex (part ++ b ∷ []) begun line (column + 1) bs
    else closed part line begun (lex (begin b) column (line_after b line) (column_after b column) bs)

-- the tokens of a text with its end, or its first refusal
abbrev pub tokens_of : List ℕ → Lexed
tokens_of text = lex [] 1 1 1 text
