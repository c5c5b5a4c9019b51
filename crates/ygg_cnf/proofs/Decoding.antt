-- A line is that of one step only.
use Rattle.std.proofs.Common.{◌≡◌, ℕ, ◌<◌, Bool, true, false, List, [], ◌∷◌, ◌++◌, refl, sym, ap, ◌∙◌, arith}
use Rattle.std.specs.Prelude.{All}
use Rattle.std.specs.Fmt.{decimal}
use Rattle.std.proofs.lemmas.Fmt.{decimal_injective}
use Rattle.std.proofs.lemmas.List.Elements.{All-head, All-tail}
use Rattle.ygg_cnf.specs.declared.lit.Lit.{Lit}
use Rattle.ygg_cnf.specs.declared.log.Step.{Step}
use Rattle.ygg_cnf.specs.declared.log.Step.TheVariants.{Added}
use Rattle.ygg_cnf.specs.Lines.{literal_word, step_line}
use Rattle.ygg_cnf.specs.Steps.{IsNumber, IsLiteral, IsStep}
use Rattle.ygg_cnf.specs.Spots.{numbers_then, literals_then}
use Rattle.ygg_cnf.proofs.Decimals.{IsDigit, decimal_digits, decimal_first, decimal_some}
use Rattle.ygg_cnf.proofs.Words.{line_joined}

-- digits up to a space, and what follows it
same_digits : (xs ys ps qs : List ℕ) → All IsDigit xs → All IsDigit ys → xs ++ 32 ∷ ps ≡ ys ++ 32 ∷ qs → (xs ≡ ys) × (ps ≡ qs)
same_digits [] [] ps qs first second is = (refl, cc)
same_digits [] (y ∷ ys) ps qs first second is =
    let same : 32 ≡ y = cc in
    let digit = All-head IsDigit y ys second in
    absurd (omega (arith, same, digit.0))
same_digits (x ∷ xs) [] ps qs first second is =
    let same : x ≡ 32 = cc in
    let digit = All-head IsDigit x xs first in
    absurd (omega (arith, same, digit.0))
same_digits (x ∷ xs) (y ∷ ys) ps qs first second is =
    let head : x ≡ y = cc in
    let tail : xs ++ 32 ∷ ps ≡ ys ++ 32 ∷ qs = cc in
    let others = same_digits xs ys ps qs (All-tail IsDigit x xs first) (All-tail IsDigit y ys second) tail in
    (ap (λ (z : ℕ). z ∷ xs) head ∙ ap (λ (zs : List ℕ). y ∷ zs) others.0, others.1)

-- a number up to a space, and what follows it
same_number : (v w : ℕ) (ps qs : List ℕ) → IsNumber v → IsNumber w → decimal v ++ 32 ∷ ps ≡ decimal w ++ 32 ∷ qs → (v ≡ w) × (ps ≡ qs)
same_number v w ps qs one two is =
    let same = same_digits (decimal v) (decimal w) ps qs (decimal_digits v one.1) (decimal_digits w two.1) is in
    (decimal_injective v w one.1 two.1 same.0, same.1)

-- a number begins with no 0, and with no `-`
begins_above : (v b : ℕ) (ps qs : List ℕ) → IsNumber v → decimal v ++ ps ≡ b ∷ qs → 48 < b
begins_above v b ps qs is e = by_digits (decimal v) refl e
  where
    by_digits : (ds : List ℕ) → decimal v ≡ ds → ds ++ ps ≡ b ∷ qs → 48 < b
    by_digits [] digits e = absurd (decimal_some v is.1 digits)
    by_digits (d ∷ ds) digits e =
        let same : d ≡ b = cc in
        let first = decimal_first v d ds is.0 is.1 digits in
        omega (arith, same, first.0)

-- numbers up to the last 0
same_numbers : (ms ns ps qs : List ℕ) → All IsNumber ms → All IsNumber ns → numbers_then ms (48 ∷ 10 ∷ ps) ≡ numbers_then ns (48 ∷ 10 ∷ qs)
    → (ms ≡ ns) × (ps ≡ qs)
same_numbers [] [] ps qs first second is = (refl, cc)
same_numbers [] (n ∷ ns) ps qs first second is =
    let above = begins_above n 48 (32 ∷ numbers_then ns (48 ∷ 10 ∷ qs)) (10 ∷ ps) (All-head IsNumber n ns second) (sym is) in
    absurd (omega arith)
same_numbers (m ∷ ms) [] ps qs first second is =
    let above = begins_above m 48 (32 ∷ numbers_then ms (48 ∷ 10 ∷ ps)) (10 ∷ qs) (All-head IsNumber m ms first) is in
    absurd (omega arith)
same_numbers (m ∷ ms) (n ∷ ns) ps qs first second is =
    let here = same_number m n _ _ (All-head IsNumber m ms first) (All-head IsNumber n ns second) is in
    let others = same_numbers ms ns ps qs (All-tail IsNumber m ms first) (All-tail IsNumber n ns second) here.1 in
    (ap (λ (z : ℕ). z ∷ ms) here.0 ∙ ap (λ (zs : List ℕ). n ∷ zs) others.0, others.1)

-- a literal up to a space, and what follows it
same_literal : (x y : Lit) (ps qs : List ℕ) → IsLiteral x → IsLiteral y → literal_word x ++ 32 ∷ ps ≡ literal_word y ++ 32 ∷ qs → (x ≡ y) × (ps ≡ qs)
same_literal x y ps qs one two is = by_signs x.negated y.negated refl refl
  where
    by_signs : (a b : Bool) → x.negated ≡ a → y.negated ≡ b → (x ≡ y) × (ps ≡ qs)
    by_signs true true first second =
        let whole : 45 ∷ (decimal x.var ++ 32 ∷ ps) ≡ 45 ∷ (decimal y.var ++ 32 ∷ qs) = rw (first, second) at is in
        let tail : decimal x.var ++ 32 ∷ ps ≡ decimal y.var ++ 32 ∷ qs = cc in
        let same = same_number x.var y.var ps qs one two tail in (
          ap (λ (v : ℕ). record { var = v; negated = x.negated }) same.0
              ∙ ap (λ (s : Bool). record { var = y.var; negated = s }) (first ∙ sym second),
          same.1,
        )
    by_signs false false first second =
        let whole : decimal x.var ++ 32 ∷ ps ≡ decimal y.var ++ 32 ∷ qs = rw (first, second) at is in
        let same = same_number x.var y.var ps qs one two whole in (
          ap (λ (v : ℕ). record { var = v; negated = x.negated }) same.0
              ∙ ap (λ (s : Bool). record { var = y.var; negated = s }) (first ∙ sym second),
          same.1,
        )
    by_signs true false first second =
        let whole : 45 ∷ (decimal x.var ++ 32 ∷ ps) ≡ decimal y.var ++ 32 ∷ qs = rw (first, second) at is in
        let above = begins_above y.var 45 (32 ∷ qs) (decimal x.var ++ 32 ∷ ps) two (sym whole) in
        absurd (omega arith)
    by_signs false true first second =
        let whole : decimal x.var ++ 32 ∷ ps ≡ 45 ∷ (decimal y.var ++ 32 ∷ qs) = rw (first, second) at is in
        let above = begins_above x.var 45 (32 ∷ ps) (decimal y.var ++ 32 ∷ qs) one whole in
        absurd (omega arith)

-- bytes that begin otherwise
differ_first : (a b : ℕ) (xs ys : List ℕ) → a ∷ xs ≡ b ∷ ys → a < b → ⊥
differ_first a b xs ys same less = let head : a ≡ b = cc in omega arith

-- a literal is no 0
no_zero : (x : Lit) (ps qs : List ℕ) → IsLiteral x → literal_word x ++ 32 ∷ ps ≡ 48 ∷ qs → ⊥
no_zero x ps qs is e = by_sign x.negated refl
  where
    by_sign : (a : Bool) → x.negated ≡ a → ⊥
    by_sign true first =
        let whole : 45 ∷ (decimal x.var ++ 32 ∷ ps) ≡ 48 ∷ qs = rw first at e in
        differ_first 45 48 (decimal x.var ++ 32 ∷ ps) qs whole (omega arith)
    by_sign false first =
        let whole : decimal x.var ++ 32 ∷ ps ≡ 48 ∷ qs = rw first at e in
        let above = begins_above x.var 48 (32 ∷ ps) qs is whole in
        omega arith

-- literals up to the 0 after them
same_literals : (xs ys : List Lit) (ps qs : List ℕ) → All IsLiteral xs → All IsLiteral ys → literals_then xs (48 ∷ 32 ∷ ps) ≡ literals_then ys (48 ∷ 32 ∷ qs)
    → (xs ≡ ys) × (ps ≡ qs)
same_literals [] [] ps qs first second is = (refl, cc)
same_literals [] (y ∷ ys) ps qs first second is =
    absurd (no_zero y (literals_then ys (48 ∷ 32 ∷ qs)) (32 ∷ ps) (All-head IsLiteral y ys second) (sym is))
same_literals (x ∷ xs) [] ps qs first second is =
    absurd (no_zero x (literals_then xs (48 ∷ 32 ∷ ps)) (32 ∷ qs) (All-head IsLiteral x xs first) is)
same_literals (x ∷ xs) (y ∷ ys) ps qs first second is =
    let here = same_literal x y _ _ (All-head IsLiteral x xs first) (All-head IsLiteral y ys second) is in
    let others = same_literals xs ys ps qs (All-tail IsLiteral x xs first) (All-tail IsLiteral y ys second) here.1 in
    (ap (λ (z : Lit). z ∷ xs) here.0 ∙ ap (λ (zs : List Lit). y ∷ zs) others.0, others.1)

-- two steps whose lines begin one text
pub same_step : (s t : Step) (ps qs : List ℕ) → IsStep s → IsStep t → step_line s ++ ps ≡ step_line t ++ qs → (s ≡ t) × (ps ≡ qs)
same_step (Added clause chain) (Added others numbers) ps qs one two is =
    let whole = sym (line_joined clause chain ps) ∙ is ∙ line_joined others numbers qs in
    let tail : literals_then clause (48 ∷ 32 ∷ numbers_then chain (48 ∷ 10 ∷ ps)) ≡ literals_then others (48 ∷ 32 ∷ numbers_then numbers (48 ∷ 10 ∷ qs)) = cc in
    let literals = same_literals clause others _ _ one.literals two.literals tail in
    let ids = same_numbers chain numbers ps qs one.numbers two.numbers literals.1 in
    (ap (λ (c : List Lit). Added c chain) literals.0 ∙ ap (λ (h : List ℕ). Added others h) ids.0, ids.1)
