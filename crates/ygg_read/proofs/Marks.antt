-- Marks that are spelled alike are the same.
use Rattle.std.proofs.Common.{◌≡◌, ℕ, ◌==◌, Bool, true, false, cond, ◌&&◌, List, [], ◌∷◌, length, Some, None, refl, sym, ap, ◌∙◌, arith}
use Rattle.std.proofs.lemmas.Bool.Decides.{nat_tests}
use Rattle.std.proofs.lemmas.Slice.Eq.{bytes_eq-Decides}
use Rattle.ygg_base.specs.declared.token.Keyword.{Keyword}
use Rattle.ygg_base.specs.declared.token.Keyword.TheVariants as word
use Rattle.ygg_base.specs.declared.token.Symbol.{Symbol}
use Rattle.ygg_base.specs.declared.token.Symbol.TheVariants as sign
use Rattle.ygg_base.specs.declared.token.Mark.{Mark}
use Rattle.ygg_base.specs.declared.token.Mark.TheVariants as mark
use Rattle.ygg_base.specs.declared.token.Token.{Token}
use Rattle.ygg_base.specs.Spelling.{keyword_bytes, symbol_bytes}
use Rattle.ygg_base.specs.Lexing.{keyword_of, symbol_of}
use Rattle.ygg_syntax.specs.declared.tree.Place.{Place}
use Rattle.ygg_syntax.specs.Reading.{token, same_mark, starts, passes, takes}

keyword_again : (k : Keyword) → keyword_of (keyword_bytes k) ≡ Some k
keyword_again word.Yggdrasil = refl
keyword_again word.Disk = refl
keyword_again word.Sync = refl
keyword_again word.Async = refl
keyword_again word.Of = refl
keyword_again word.Def = refl
keyword_again word.Word = refl
keyword_again word.Row = refl
keyword_again word.Table = refl
keyword_again word.Layer = refl
keyword_again word.State = refl
keyword_again word.Start = refl
keyword_again word.Memory = refl
keyword_again word.Format = refl
keyword_again word.Op = refl
keyword_again word.Crash = refl
keyword_again word.Tick = refl
keyword_again word.Recover = refl
keyword_again word.Relate = refl
keyword_again word.Always = refl
keyword_again word.Settled = refl
keyword_again word.Maybe = refl
keyword_again word.Spec = refl
keyword_again word.On = refl
keyword_again word.Impl = refl
keyword_again word.Low = refl
keyword_again word.Pick = refl
keyword_again word.Resize = refl
keyword_again word.Fill = refl
keyword_again word.All = refl
keyword_again word.Any = refl
keyword_again word.Below = refl
keyword_again word.Return = refl
keyword_again word.Let = refl
keyword_again word.If = refl
keyword_again word.Else = refl
keyword_again word.For = refl
keyword_again word.Call = refl
keyword_again word.Choose = refl

symbol_again : (s : Symbol) → symbol_of (symbol_bytes s) ≡ Some s
symbol_again sign.BraceOpen = refl
symbol_again sign.BraceClose = refl
symbol_again sign.RoundOpen = refl
symbol_again sign.RoundClose = refl
symbol_again sign.SquareOpen = refl
symbol_again sign.SquareClose = refl
symbol_again sign.Semicolon = refl
symbol_again sign.Colon = refl
symbol_again sign.Comma = refl
symbol_again sign.Dot = refl
symbol_again sign.Assign = refl
symbol_again sign.Equal = refl
symbol_again sign.NotEqual = refl
symbol_again sign.Less = refl
symbol_again sign.LessOrEqual = refl
symbol_again sign.Greater = refl
symbol_again sign.GreaterOrEqual = refl
symbol_again sign.Plus = refl
symbol_again sign.Minus = refl
symbol_again sign.Star = refl
symbol_again sign.Ampersand = refl
symbol_again sign.Bar = refl
symbol_again sign.Caret = refl
symbol_again sign.Tilde = refl
symbol_again sign.ShiftLeft = refl
symbol_again sign.ShiftRight = refl
symbol_again sign.Implies = refl
symbol_again sign.Arrow = refl

same_keyword : (j k : Keyword) → keyword_bytes j ≡ keyword_bytes k → j ≡ k
same_keyword j k h = let e : Some j ≡ Some k = sym (keyword_again j) ∙ ap keyword_of h ∙ keyword_again k in cc

same_symbol : (s t : Symbol) → symbol_bytes s ≡ symbol_bytes t → s ≡ t
same_symbol s t h = let e : Some s ≡ Some t = sym (symbol_again s) ∙ ap symbol_of h ∙ symbol_again t in cc

same_number : (m n : ℕ) → m == n ≡ true → m ≡ n
same_number m n h = grind (arith, nat_tests)

pub same_is : (m n : Mark) → same_mark m n ≡ true → m ≡ n
same_is (mark.Name s) (mark.Name t) h = ap mark.Name ((bytes_eq-Decides s t).0 h)
same_is (mark.Num m) (mark.Num n) h = ap mark.Num (same_number m n h)
same_is (mark.Keyword j) (mark.Keyword k) h = ap mark.Keyword (same_keyword j k ((bytes_eq-Decides (keyword_bytes j) (keyword_bytes k)).0 h))
same_is (mark.Symbol s) (mark.Symbol t) h = ap mark.Symbol (same_symbol s t ((bytes_eq-Decides (symbol_bytes s) (symbol_bytes t)).0 h))
same_is (mark.Name s) (mark.Num n) h = absurd (cc)
same_is (mark.Name s) (mark.Keyword k) h = absurd (cc)
same_is (mark.Name s) (mark.Symbol t) h = absurd (cc)
same_is (mark.Num m) (mark.Name t) h = absurd (cc)
same_is (mark.Num m) (mark.Keyword k) h = absurd (cc)
same_is (mark.Num m) (mark.Symbol t) h = absurd (cc)
same_is (mark.Keyword j) (mark.Name t) h = absurd (cc)
same_is (mark.Keyword j) (mark.Num n) h = absurd (cc)
same_is (mark.Keyword j) (mark.Symbol t) h = absurd (cc)
same_is (mark.Symbol s) (mark.Name t) h = absurd (cc)
same_is (mark.Symbol s) (mark.Num n) h = absurd (cc)
same_is (mark.Symbol s) (mark.Keyword k) h = absurd (cc)

not_true : (b : Bool) → (b ≡ true → ⊥) → b ≡ false
not_true true h = absurd (h refl)
not_true false h = refl

-- another token comes first
pub starts_other : (m : Mark) (t : Token) (ts from : List Token) → from ≡ t ∷ ts → (m ≡ t.mark → ⊥) → starts m from ≡ false
starts_other m t ts from is h = ap (starts m) is ∙ not_true (same_mark m t.mark) (λ same. h (same_is m t.mark same))

-- no token comes
pub starts_none : (m : Mark) (from : List Token) → length from ≡ 0 → starts m from ≡ false
starts_none m [] h = refl
starts_none m (t ∷ ts) h = absurd (omega arith)

-- a token of this mark comes first
pub record Comes (m : Mark) (from rest : List Token) : Type 0 where
  pub at : Place
  pub is : from ≡ token m at ∷ rest

only : (b : Bool) (ts rest : List Token) → cond b (Some ts) None ≡ Some rest → (b ≡ true) × (ts ≡ rest)
only true ts rest h = (refl, cc)
only false ts rest h = absurd (cc)

both : (b c : Bool) → b && c ≡ true → (b ≡ true) × (c ≡ true)
both true c h = (refl, h)
both false c h = absurd (cc)

-- what passes a token
pub passed : (m : Mark) (from rest : List Token) → passes m from ≡ Some rest → Comes m from rest
passed m [] rest h = absurd (cc)
passed m (t ∷ ts) rest h =
    let k = only (same_mark m t.mark) ts rest h in
    let place : Place = record { line = t.line; column = t.column } in
    record { at = place; is = ap (λ n. token n place ∷ ts) (sym (same_is m t.mark k.0)) ∙ ap (λ us. token m place ∷ us) k.1 }

-- what takes a token
pub took : (m : Mark) (at : Place) (from rest : List Token) → takes m at from ≡ Some rest → from ≡ token m at ∷ rest
took m at [] rest h = absurd (cc)
took m at (t ∷ ts) rest h =
    let k = only (same_mark m t.mark && (t.line == at.line && t.column == at.column)) ts rest h in
    let here = both (same_mark m t.mark) (t.line == at.line && t.column == at.column) k.0 in
    let place = both (t.line == at.line) (t.column == at.column) here.1 in
    let e : m ≡ t.mark = same_is m t.mark here.0 in
    let line : t.line ≡ at.line = same_number t.line at.line place.0 in
    let column : t.column ≡ at.column = same_number t.column at.column place.1 in
    let rest_is : ts ≡ rest = k.1 in
    λ i. record { mark = sym e i; line = line i; column = column i } ∷ rest_is i
