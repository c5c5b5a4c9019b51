-- The law that canonical texts keep their tokens.
use Rattle.std.specs.Prelude.{◌≡◌, ℕ, ◌<◌, ◌^◌, true, List, [], ◌∷◌, map, None, Ok, Err}
use Rattle.std.specs.List.{All, list_all}
use Rattle.ygg_base.specs.declared.token.Mark.{Mark}
use Rattle.ygg_base.specs.declared.token.Mark.TheVariants as mark
use Rattle.ygg_base.specs.declared.token.Token.{Token}
use Rattle.ygg_base.specs.declared.tokens.Tokens.{Tokens}
use Rattle.ygg_base.specs.Lexing.{Lexed, tokens_of, keyword_of, is_lower, is_name_byte}
use Rattle.ygg_print.specs.Layout.{layout}

-- a lower-case letter, then lower-case letters, digits and `_`, and no keyword
abbrev pub IsName : List ℕ → Type 0
IsName [] = ⊥
IsName (first ∷ others) = (is_lower first ≡ true) × ((list_all is_name_byte others ≡ true) × (keyword_of (first ∷ others) ≡ None))

-- a mark of the language: a name has the form of one, and a number is below 2 ^ 64
abbrev pub IsMark : Mark → Type 0
IsMark (mark.Name text) = IsName text
IsMark (mark.Num number) = number < 2 ^ 64
IsMark (mark.Keyword keyword) = Unit {0}
IsMark (mark.Symbol sign) = Unit {0}

-- there are tokens and no refusal, and these are the marks of the tokens in order
abbrev pub HasMarks : List Mark → Lexed → Type 0
HasMarks marks (Ok found) = map (λ (token : Token). token.mark) found.items ≡ marks
HasMarks marks (Err refusal) = ⊥

-- the tokens of the canonical text of marks of the language have these marks
abbrev pub LaidOut : Type 0
LaidOut = (marks : List Mark) → All IsMark marks → HasMarks marks (tokens_of (layout marks))

-- the tokens of every text that isn't refused have marks of the language
abbrev pub TokensAreMarks : Type 0
TokensAreMarks = (text : List ℕ) (found : Tokens) → tokens_of text ≡ Ok found → All IsMark (map (λ (token : Token). token.mark) found.items)
