-- The marks of a file that is made are marks of the language.
use Rattle.std.proofs.Common.{◌≡◌, ℕ, ◌<◌, ◌^◌, zero, suc, true, false, List, [], ◌∷◌, ◌++◌, codes, refl, ap, ◌∙◌, arith, rules}
use Rattle.std.specs.Prelude.{Bool, ◌||◌, ◌==◌}
use Rattle.std.specs.List.{All, list_all}
use Rattle.std.specs.Fmt.{decimal}
use Rattle.std.proofs.lemmas.Fmt.{digits_decimal}
use Rattle.std.proofs.lemmas.Str.Parse.{IsNumeralModel, numerals_by_fold}
use Rattle.std.proofs.lemmas.Bool.{and_from, and_parts}
use Rattle.std.proofs.lemmas.List.Elements.{All-nil, All-append, All-from_recursion}
use Rattle.ygg_base.specs.Lexing.{is_lower, is_digit, is_name_byte, value_after}
use Rattle.ygg_print.specs.TreeLaws.{IsName, IsMark}
use Rattle.ygg_yard.specs.Trees.{put_name}
use Rattle.ygg_yard.specs.Marks.{head_marks, operation_marks, operations_marks, tail_marks, made_marks}

-- a digit may stand in a name
names_digit : (b : ℕ) → is_digit b ≡ true → is_name_byte b ≡ true
names_digit b h = ap (λ d. (is_lower b || d) || b == 95) h ∙ by (is_lower b) (b == 95)
  where
    by : (x y : Bool) → ((x || true) || y) ≡ true
    by true y = refl
    by false y = refl

names_digits : (digits : List ℕ) → list_all is_digit digits ≡ true → list_all is_name_byte digits ≡ true
names_digits [] h = refl
names_digits (b ∷ bs) h =
    let (first, others) = and_parts (is_digit b) (list_all is_digit bs) h in
    and_from (is_name_byte b) (list_all is_name_byte bs) (names_digit b first) (names_digits bs others)

-- digits and their number, as the language has them, are those of std
numerals : IsNumeralModel (λ digits. list_all is_digit digits ≡ true) (value_after 0)
numerals = numerals_by_fold _ (search rules) value_after (search rules)

pub put_is_name : (number : ℕ) → number < 2 ^ 64 → IsName (put_name number)
put_is_name number small = (refl, (names_digits (decimal number) (digits_decimal numerals number small), refl))

-- the names of the language's own that such a file has
own_v : IsName (codes "v")
own_v = (refl, (refl, refl))

own_t : IsName (codes "t")
own_t = (refl, (refl, refl))

own_write : IsName (codes "write")
own_write = (refl, (refl, refl))

own_view : IsName (codes "view")
own_view = (refl, (refl, refl))

own_cells : IsName (codes "cells")
own_cells = (refl, (refl, refl))

operation_known : (number : ℕ) → number < 2 ^ 64 → All IsMark (operation_marks number)
operation_known number small =
    let eight : 8 < 2 ^ 64 = omega arith in
    All-from_recursion IsMark (operation_marks number) (assumption (put_is_name number small, small, eight, own_v, own_t, own_write))

operations_known : (count : ℕ) → count < 2 ^ 64 → All IsMark (operations_marks count)
operations_known zero small = All-nil IsMark
operations_known (suc number) small =
    let less : number < 2 ^ 64 = omega (arith, small) in
    All-append IsMark (operations_marks number) (operation_marks number) (operations_known number less) (operation_known number less)

head_known : (count : ℕ) → count < 2 ^ 64 → All IsMark (head_marks count)
head_known count small =
    let one : 1 < 2 ^ 64 = omega arith in
    let eight : 8 < 2 ^ 64 = omega arith in
    All-from_recursion IsMark (head_marks count) (assumption (small, one, eight, own_cells, own_t))

tail_known : All IsMark tail_marks
tail_known = All-from_recursion IsMark tail_marks (assumption (own_view, own_t))

pub known : (count : ℕ) → count < 2 ^ 64 → All IsMark (made_marks count)
known count small =
    All-append IsMark (head_marks count) (operations_marks count ++ tail_marks) (head_known count small)
    (All-append IsMark (operations_marks count) tail_marks (operations_known count small) tail_known)
