-- Which marks are read back from their bytes.
use Rattle.std.proofs.Common.{
  rules,
  ◌≡◌,
  inl,
  inr,
  ℕ,
  zero,
  suc,
  ◌<◌,
  ◌^◌,
  true,
  false,
  ◌==◌,
  nat_lt,
  get_or,
  length,
  List,
  [],
  ◌∷◌,
  Option,
  Some,
  None,
  refl,
  ap,
  arith,
}
use Rattle.std.specs.List.{list_all}
use Rattle.std.specs.Fmt.{decimal}
use Rattle.std.proofs.lemmas.Fmt.{digits_decimal, digits_value-decimal, decimal_nonempty, decimal_digit, first_decimal}
use Rattle.std.proofs.lemmas.Str.Parse.{IsNumeralModel, numerals_by_fold}
use Rattle.std.proofs.lemmas.Bool.{and_parts}
use Rattle.std.proofs.lemmas.Bool.Decides.{nat_tests}
use Rattle.ygg_base.specs.declared.token.Keyword.{Keyword}
use Rattle.ygg_base.specs.declared.token.Keyword.TheVariants as word
use Rattle.ygg_base.specs.declared.token.Symbol.{Symbol}
use Rattle.ygg_base.specs.declared.token.Symbol.TheVariants as symbol
use Rattle.ygg_base.specs.declared.token.Mark.{Mark}
use Rattle.ygg_base.specs.declared.token.Mark.TheVariants as mark
use Rattle.ygg_base.specs.Spelling.{mark_bytes}
use Rattle.ygg_base.specs.Lexing.{is_lower, is_digit, recognized, number_of, value_after, has_leading_zero}
use Rattle.ygg_lex.specs.Rules.{IsLexeme}
use Rattle.ygg_print.specs.TreeLaws.{IsName, IsMark}

-- a mark whose bytes are one token, which is that mark
pub record Readable (m : Mark) : Type 0 where
  pub first : ℕ
  pub others : List ℕ
  pub spelling : mark_bytes m ≡ first ∷ others
  pub lexeme : IsLexeme (first ∷ others)
  pub read : recognized (first ∷ others) ≡ Some m

readable_as : (m : Mark) (first : ℕ) (others : List ℕ) → mark_bytes m ≡ first ∷ others → IsLexeme (first ∷ others) →
    recognized (first ∷ others) ≡ Some m → Readable m
readable_as m first others spelling lexeme read = record { first = first; others = others; spelling = spelling; lexeme = lexeme; read = read }

readable_symbol : (sign : Symbol) → Readable (mark.Symbol sign)
readable_symbol symbol.BraceOpen = readable_as _ 123 [] refl (inr (inr refl)) refl
readable_symbol symbol.BraceClose = readable_as _ 125 [] refl (inr (inr refl)) refl
readable_symbol symbol.RoundOpen = readable_as _ 40 [] refl (inr (inr refl)) refl
readable_symbol symbol.RoundClose = readable_as _ 41 [] refl (inr (inr refl)) refl
readable_symbol symbol.SquareOpen = readable_as _ 91 [] refl (inr (inr refl)) refl
readable_symbol symbol.SquareClose = readable_as _ 93 [] refl (inr (inr refl)) refl
readable_symbol symbol.Semicolon = readable_as _ 59 [] refl (inr (inr refl)) refl
readable_symbol symbol.Colon = readable_as _ 58 [] refl (inr (inr refl)) refl
readable_symbol symbol.Comma = readable_as _ 44 [] refl (inr (inr refl)) refl
readable_symbol symbol.Dot = readable_as _ 46 [] refl (inr (inr refl)) refl
readable_symbol symbol.Assign = readable_as _ 61 [] refl (inr (inr refl)) refl
readable_symbol symbol.Equal = readable_as _ 61 (61 ∷ []) refl (inr (inr refl)) refl
readable_symbol symbol.NotEqual = readable_as _ 33 (61 ∷ []) refl (inr (inr refl)) refl
readable_symbol symbol.Less = readable_as _ 60 [] refl (inr (inr refl)) refl
readable_symbol symbol.LessOrEqual = readable_as _ 60 (61 ∷ []) refl (inr (inr refl)) refl
readable_symbol symbol.Greater = readable_as _ 62 [] refl (inr (inr refl)) refl
readable_symbol symbol.GreaterOrEqual = readable_as _ 62 (61 ∷ []) refl (inr (inr refl)) refl
readable_symbol symbol.Plus = readable_as _ 43 [] refl (inr (inr refl)) refl
readable_symbol symbol.Minus = readable_as _ 45 [] refl (inr (inr refl)) refl
readable_symbol symbol.Star = readable_as _ 42 [] refl (inr (inr refl)) refl
readable_symbol symbol.Ampersand = readable_as _ 38 [] refl (inr (inr refl)) refl
readable_symbol symbol.Bar = readable_as _ 124 [] refl (inr (inr refl)) refl
readable_symbol symbol.Caret = readable_as _ 94 [] refl (inr (inr refl)) refl
readable_symbol symbol.Tilde = readable_as _ 126 [] refl (inr (inr refl)) refl
readable_symbol symbol.ShiftLeft = readable_as _ 60 (60 ∷ []) refl (inr (inr refl)) refl
readable_symbol symbol.ShiftRight = readable_as _ 62 (62 ∷ []) refl (inr (inr refl)) refl
readable_symbol symbol.Implies = readable_as _ 61 (62 ∷ []) refl (inr (inr refl)) refl
readable_symbol symbol.Arrow = readable_as _ 45 (62 ∷ []) refl (inr (inr refl)) refl

readable_keyword : (keyword : Keyword) → Readable (mark.Keyword keyword)
readable_keyword word.Yggdrasil = readable_as _ 121 (103 ∷ 103 ∷ 100 ∷ 114 ∷ 97 ∷ 115 ∷ 105 ∷ 108 ∷ []) refl (inl (refl, refl)) refl
readable_keyword word.Disk = readable_as _ 100 (105 ∷ 115 ∷ 107 ∷ []) refl (inl (refl, refl)) refl
readable_keyword word.Sync = readable_as _ 115 (121 ∷ 110 ∷ 99 ∷ []) refl (inl (refl, refl)) refl
readable_keyword word.Async = readable_as _ 97 (115 ∷ 121 ∷ 110 ∷ 99 ∷ []) refl (inl (refl, refl)) refl
readable_keyword word.Of = readable_as _ 111 (102 ∷ []) refl (inl (refl, refl)) refl
readable_keyword word.Def = readable_as _ 100 (101 ∷ 102 ∷ []) refl (inl (refl, refl)) refl
readable_keyword word.Word = readable_as _ 119 (111 ∷ 114 ∷ 100 ∷ []) refl (inl (refl, refl)) refl
readable_keyword word.Row = readable_as _ 114 (111 ∷ 119 ∷ []) refl (inl (refl, refl)) refl
readable_keyword word.Table = readable_as _ 116 (97 ∷ 98 ∷ 108 ∷ 101 ∷ []) refl (inl (refl, refl)) refl
readable_keyword word.Layer = readable_as _ 108 (97 ∷ 121 ∷ 101 ∷ 114 ∷ []) refl (inl (refl, refl)) refl
readable_keyword word.State = readable_as _ 115 (116 ∷ 97 ∷ 116 ∷ 101 ∷ []) refl (inl (refl, refl)) refl
readable_keyword word.Start = readable_as _ 115 (116 ∷ 97 ∷ 114 ∷ 116 ∷ []) refl (inl (refl, refl)) refl
readable_keyword word.Memory = readable_as _ 109 (101 ∷ 109 ∷ 111 ∷ 114 ∷ 121 ∷ []) refl (inl (refl, refl)) refl
readable_keyword word.Format = readable_as _ 102 (111 ∷ 114 ∷ 109 ∷ 97 ∷ 116 ∷ []) refl (inl (refl, refl)) refl
readable_keyword word.Op = readable_as _ 111 (112 ∷ []) refl (inl (refl, refl)) refl
readable_keyword word.Crash = readable_as _ 99 (114 ∷ 97 ∷ 115 ∷ 104 ∷ []) refl (inl (refl, refl)) refl
readable_keyword word.Tick = readable_as _ 116 (105 ∷ 99 ∷ 107 ∷ []) refl (inl (refl, refl)) refl
readable_keyword word.Recover = readable_as _ 114 (101 ∷ 99 ∷ 111 ∷ 118 ∷ 101 ∷ 114 ∷ []) refl (inl (refl, refl)) refl
readable_keyword word.Relate = readable_as _ 114 (101 ∷ 108 ∷ 97 ∷ 116 ∷ 101 ∷ []) refl (inl (refl, refl)) refl
readable_keyword word.Always = readable_as _ 97 (108 ∷ 119 ∷ 97 ∷ 121 ∷ 115 ∷ []) refl (inl (refl, refl)) refl
readable_keyword word.Settled = readable_as _ 115 (101 ∷ 116 ∷ 116 ∷ 108 ∷ 101 ∷ 100 ∷ []) refl (inl (refl, refl)) refl
readable_keyword word.Maybe = readable_as _ 109 (97 ∷ 121 ∷ 98 ∷ 101 ∷ []) refl (inl (refl, refl)) refl
readable_keyword word.Spec = readable_as _ 115 (112 ∷ 101 ∷ 99 ∷ []) refl (inl (refl, refl)) refl
readable_keyword word.On = readable_as _ 111 (110 ∷ []) refl (inl (refl, refl)) refl
readable_keyword word.Impl = readable_as _ 105 (109 ∷ 112 ∷ 108 ∷ []) refl (inl (refl, refl)) refl
readable_keyword word.Low = readable_as _ 108 (111 ∷ 119 ∷ []) refl (inl (refl, refl)) refl
readable_keyword word.Pick = readable_as _ 112 (105 ∷ 99 ∷ 107 ∷ []) refl (inl (refl, refl)) refl
readable_keyword word.Resize = readable_as _ 114 (101 ∷ 115 ∷ 105 ∷ 122 ∷ 101 ∷ []) refl (inl (refl, refl)) refl
readable_keyword word.Fill = readable_as _ 102 (105 ∷ 108 ∷ 108 ∷ []) refl (inl (refl, refl)) refl
readable_keyword word.All = readable_as _ 97 (108 ∷ 108 ∷ []) refl (inl (refl, refl)) refl
readable_keyword word.Any = readable_as _ 97 (110 ∷ 121 ∷ []) refl (inl (refl, refl)) refl
readable_keyword word.Below = readable_as _ 98 (101 ∷ 108 ∷ 111 ∷ 119 ∷ []) refl (inl (refl, refl)) refl
readable_keyword word.Return = readable_as _ 114 (101 ∷ 116 ∷ 117 ∷ 114 ∷ 110 ∷ []) refl (inl (refl, refl)) refl
readable_keyword word.Let = readable_as _ 108 (101 ∷ 116 ∷ []) refl (inl (refl, refl)) refl
readable_keyword word.If = readable_as _ 105 (102 ∷ []) refl (inl (refl, refl)) refl
readable_keyword word.Else = readable_as _ 101 (108 ∷ 115 ∷ 101 ∷ []) refl (inl (refl, refl)) refl
readable_keyword word.For = readable_as _ 102 (111 ∷ 114 ∷ []) refl (inl (refl, refl)) refl
readable_keyword word.Call = readable_as _ 99 (97 ∷ 108 ∷ 108 ∷ []) refl (inl (refl, refl)) refl
readable_keyword word.Choose = readable_as _ 99 (104 ∷ 111 ∷ 111 ∷ 115 ∷ 101 ∷ []) refl (inl (refl, refl)) refl

readable_name : (text : List ℕ) → IsName text → Readable (mark.Name text)
readable_name [] is = absurd is
readable_name (first ∷ others) is =
    readable_as _ first others refl (inl (is.0, is.1.0))
    (rw is.0 (ap (λ (found : Option Keyword). Some (elim found [ Some keyword ↦ mark.Keyword keyword | None ↦ mark.Name (first ∷ others) ])) is.1.1))

-- digits and their number, as the language has them, are those of std
numerals : IsNumeralModel (λ digits. list_all is_digit digits ≡ true) (value_after 0)
numerals = numerals_by_fold _ (search rules) value_after (search rules)

no_zero : (digits : List ℕ) → 48 < get_or digits 0 0 → has_leading_zero digits ≡ false
no_zero [] first = refl
no_zero (digit ∷ digits) first = let other : (digit == 48) ≡ false = grind (arith, nat_tests) in rw other refl

no_leading_zero : (n : ℕ) → n < 2 ^ 64 → has_leading_zero (decimal n) ≡ false
no_leading_zero zero small = rw (decimal_digit 0 (omega arith)) refl
no_leading_zero (suc n) small = no_zero (decimal (suc n)) (first_decimal (suc n) (omega arith) small)

number_is : (n : ℕ) (digits : List ℕ) → n < 2 ^ 64 → has_leading_zero digits ≡ false → value_after 0 digits ≡ n → number_of digits ≡ Some n
number_is n digits small plain value =
    let below : nat_lt n (2 ^ 64) ≡ true = grind (arith, nat_tests) in
    rw (plain, value, below) refl

number_read : (n first : ℕ) (others : List ℕ) → n < 2 ^ 64 → list_all is_digit (first ∷ others) ≡ true → has_leading_zero (first ∷ others) ≡ false →
    value_after 0 (first ∷ others) ≡ n
    → recognized (first ∷ others) ≡ Some (mark.Num n)
number_read n first others small digits plain value =
    let digit : is_digit first ≡ true = (and_parts (is_digit first) _ digits).0 in
    let lower : is_lower first ≡ false = grind (arith, nat_tests) in
    rw (lower, digit, number_is n (first ∷ others) small plain value) refl

readable_digits : (n : ℕ) (digits : List ℕ) → n < 2 ^ 64 → decimal n ≡ digits → 0 < length digits → list_all is_digit digits ≡ true →
    has_leading_zero digits ≡ false → value_after 0 digits ≡ n
    → Readable (mark.Num n)
readable_digits n [] small is some digits plain value = absurd (omega arith)
readable_digits n (first ∷ others) small is some digits plain value =
    readable_as _ first others is (inr (inl (and_parts (is_digit first) _ digits))) (number_read n first others small digits plain value)

readable_number : (n : ℕ) → n < 2 ^ 64 → Readable (mark.Num n)
readable_number n small =
    readable_digits n (decimal n) small refl (decimal_nonempty n small) (digits_decimal numerals n small) (no_leading_zero n small)
    (digits_value-decimal numerals n small)

-- a mark of the language is read back
pub readable : (m : Mark) → IsMark m → Readable m
readable (mark.Name text) is = readable_name text is
readable (mark.Num number) is = readable_number number is
readable (mark.Keyword keyword) is = readable_keyword keyword
readable (mark.Symbol sign) is = readable_symbol sign
