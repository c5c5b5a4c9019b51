-- A value that is written is read again.
use Rattle.std.proofs.Common.{◌≡◌, ℕ, ◌^◌, ◌<◌, ◌≤◌, Bool, true, false, List, [], ◌∷◌, map, length, Some, All, refl, sym, ap, ◌∙◌, arith}
use Rattle.std.specs.Prelude.{◌==◌, option_and_then}
use Rattle.std.specs.List.{list_all, join_with_byte, AllByRecursion}
use Rattle.std.proofs.lemmas.Bool.{and_parts, and_from}
use Rattle.std.proofs.lemmas.Bool.Decides.{nat_tests}
use Rattle.std.proofs.lemmas.List.{length-append}
use Rattle.std.proofs.lemmas.List.Folds.{list_all-append}
use Rattle.std.proofs.lemmas.List.Elements.{recursion_from_All}
use Rattle.ygg_value.specs.Shapes.{IsValue, shape_of as value_shape}
use Rattle.ygg_value.specs.declared.row.Value.{Value}
use Rattle.ygg_value.specs.declared.row.Value.TheVariants as value
use Rattle.ygg_syntax.specs.declared.tree.TypeText.{TypeText}
use Rattle.ygg_sched.specs.Numbers.{number_in, number_text}
use Rattle.ygg_sched.specs.Values.{exactly, row_in, rows_in, shaped_in, value_in, row_text, value_text}
use Rattle.ygg_sched.specs.Fitting.{IsOfType}
use Rattle.ygg_sched.proofs.NumbersAgain.{is_hex, number_again, number_is_hex, number_is_some}
use Rattle.ygg_sched.proofs.PiecesAgain.{is_other, parts_again, exactly_again}

-- a byte that is no digit or letter is none of digits and letters
other : (mark b : ℕ) → is_hex mark ≡ false → is_hex b ≡ true → is_other mark b ≡ true
other mark b outside inside = by_test (b == mark) refl
  where
    by_test : (test : Bool) → (b == mark) ≡ test → is_other mark b ≡ true
    by_test false e = rw e refl
    by_test true e =
        let same : b ≡ mark = grind (arith, nat_tests) in
        let h : true ≡ false = sym inside ∙ ap is_hex same ∙ outside in
        absurd cc

all_other : (mark : ℕ) (bytes : List ℕ) → is_hex mark ≡ false → list_all is_hex bytes ≡ true → list_all (is_other mark) bytes ≡ true
all_other mark [] outside inside = refl
all_other mark (b ∷ bytes) outside inside =
    let p = and_parts (is_hex b) (list_all is_hex bytes) inside in
    and_from (is_other mark b) (list_all (is_other mark) bytes) (other mark b outside p.0) (all_other mark bytes outside p.1)

-- what holds of the mark and of each byte of the pieces holds of each byte of what is joined
all_joined : (p : ℕ → Bool) (mark : ℕ) (xs : List (List ℕ)) → p mark ≡ true → list_all (list_all p) xs ≡ true → list_all p (join_with_byte mark xs) ≡ true
all_joined p mark [] m each = refl
all_joined p mark (x ∷ []) m each = (and_parts (list_all p x) true each).0
all_joined p mark (x ∷ y ∷ xs) m each =
    let parts = and_parts (list_all p x) (list_all (list_all p) (y ∷ xs)) each in
    list_all-append p x (mark ∷ join_with_byte mark (y ∷ xs))
    ∙ and_from (list_all p x) (list_all p (mark ∷ join_with_byte mark (y ∷ xs))) parts.0
    (and_from (p mark) (list_all p (join_with_byte mark (y ∷ xs))) m (all_joined p mark (y ∷ xs) m parts.1))

-- each number without the mark
numbers_other : (mark width : ℕ) (ns : List ℕ) → is_hex mark ≡ false → list_all (list_all (is_other mark)) (map (number_text width) ns) ≡ true
numbers_other mark width [] outside = refl
numbers_other mark width (n ∷ ns) outside =
    and_from (list_all (is_other mark) (number_text width n)) (list_all (list_all (is_other mark)) (map (number_text width) ns))
    (all_other mark (number_text width n) outside (number_is_hex width n)) (numbers_other mark width ns outside)

-- a row without the mark
row_other : (mark width : ℕ) (ns : List ℕ) → is_hex mark ≡ false → is_other mark 44 ≡ true → list_all (is_other mark) (row_text width ns) ≡ true
row_other mark width ns outside comma = all_joined (is_other mark) 44 (map (number_text width) ns) comma (numbers_other mark width ns outside)

rows_other : (mark width : ℕ) (rows : List (List ℕ)) → is_hex mark ≡ false → is_other mark 44 ≡ true →
    list_all (list_all (is_other mark)) (map (row_text width) rows) ≡ true
rows_other mark width [] outside comma = refl
rows_other mark width (r ∷ rows) outside comma =
    and_from (list_all (is_other mark) (row_text width r)) (list_all (list_all (is_other mark)) (map (row_text width) rows))
    (row_other mark width r outside comma) (rows_other mark width rows outside comma)

-- a value without the mark
pub value_other : (mark : ℕ) (v : Value) → is_hex mark ≡ false → is_other mark 44 ≡ true → is_other mark 59 ≡ true →
    list_all (is_other mark) (value_text v) ≡ true
value_other mark (value.Word w) outside comma semicolon = all_other mark (number_text w.width w.bits) outside (number_is_hex w.width w.bits)
value_other mark (value.Row r) outside comma semicolon = row_other mark r.width r.words outside comma
value_other mark (value.Table t) outside comma semicolon =
    all_joined (is_other mark) 59 (map (row_text t.width) t.rows) semicolon (rows_other mark t.width t.rows outside comma)

-- each number of a row
numbers_again : (width : ℕ) → 1 ≤ width → width ≤ 64 → (ns : List ℕ) → AllByRecursion (λ n. n < 2 ^ width) ns →
    AllByRecursion (λ n. number_in width (number_text width n) ≡ Some n) ns
numbers_again width least most [] fits = tt
numbers_again width least most (n ∷ ns) fits = (number_again width n least most fits.0, numbers_again width least most ns fits.1)

-- a row
row_again : (width : ℕ) → 1 ≤ width → width ≤ 64 → (ns : List ℕ) → 1 ≤ length ns → AllByRecursion (λ n. n < 2 ^ width) ns →
    row_in width (length ns) (row_text width ns) ≡ Some ns
row_again width least most [] some fits = absurd (omega arith)
row_again width least most (n ∷ ns) some fits =
    ap (exactly (number_in width) (length (n ∷ ns))) (parts_again 44 (number_text width n) (map (number_text width) ns) (numbers_other 44 width (n ∷ ns) refl))
    ∙ exactly_again (number_in width) (number_text width) (n ∷ ns) (numbers_again width least most (n ∷ ns) fits)

-- each row of a table
rows_again : (width words : ℕ) → 1 ≤ width → width ≤ 64 → 1 ≤ words → (rows : List (List ℕ)) →
    AllByRecursion (λ (row : List ℕ). length row ≡ words) rows → AllByRecursion (λ (row : List ℕ). All (λ n. n < 2 ^ width) row) rows
    → AllByRecursion (λ row. row_in width words (row_text width row) ≡ Some row) rows
rows_again width words least most some [] even fits = tt
rows_again width words least most some (r ∷ rows) even fits =
    let one : row_in width (length r) (row_text width r) ≡ Some r =
    row_again width least most r (omega (arith, even.0)) (recursion_from_All (λ n. n < 2 ^ width) r fits.0) in
    (ap (λ k. row_in width k (row_text width r)) (sym even.0) ∙ one, rows_again width words least most some rows even.1 fits.1)

-- a table
table_again : (width words : ℕ) → 1 ≤ width → width ≤ 64 → 1 ≤ words → (rows : List (List ℕ)) → 1 ≤ length rows →
    AllByRecursion (λ (row : List ℕ). length row ≡ words) rows → AllByRecursion (λ (row : List ℕ). All (λ n. n < 2 ^ width) row) rows
    → rows_in width words (length rows) (join_with_byte 59 (map (row_text width) rows)) ≡ Some rows
table_again width words least most some [] rows_some even fits = absurd (omega arith)
table_again width words least most some (r ∷ rows) rows_some even fits =
    ap (exactly (row_in width words) (length (r ∷ rows)))
    (parts_again 59 (row_text width r) (map (row_text width) rows) (rows_other 59 width (r ∷ rows) refl refl))
    ∙ exactly_again (row_in width words) (row_text width) (r ∷ rows) (rows_again width words least most some (r ∷ rows) even fits)

-- a value of its own shape
shaped_again : (v : Value) → IsValue v → shaped_in (value_shape v) (value_text v) ≡ Some v
shaped_again (value.Word w) is = rw (number_again w.width w.bits is.least is.most is.fits) refl
shaped_again (value.Row r) is =
    rw (row_again r.width is.least is.most r.words is.some (recursion_from_All (λ n. n < 2 ^ r.width) r.words is.fits)) refl
shaped_again (value.Table t) is =
    rw (table_again t.width t.words is.least is.most is.some t.rows is.rows_some
    (recursion_from_All (λ (row : List ℕ). length row ≡ t.words) t.rows is.even)
    (recursion_from_All (λ (row : List ℕ). All (λ n. n < 2 ^ t.width) row) t.rows is.fits))
    refl

-- a value of a type
pub value_again : (t : TypeText) (v : Value) → IsOfType t v → value_in t (value_text v) ≡ Some v
value_again t v is = ap (option_and_then (λ s. shaped_in s (value_text v))) is.shape ∙ shaped_again v is.value

-- it has bytes
long_joined : (mark : ℕ) (x : List ℕ) (xs : List (List ℕ)) → 0 < length x → 0 < length (join_with_byte mark (x ∷ xs))
long_joined mark x [] some = some
long_joined mark x (y ∷ xs) some = omega (arith, length-append x (mark ∷ join_with_byte mark (y ∷ xs)))

row_is_some : (width : ℕ) (ns : List ℕ) → 1 ≤ width → 1 ≤ length ns → 0 < length (row_text width ns)
row_is_some width [] least some = absurd (omega arith)
row_is_some width (n ∷ ns) least some = long_joined 44 (number_text width n) (map (number_text width) ns) (number_is_some width n least)

table_is_some : (width words : ℕ) (rows : List (List ℕ)) → 1 ≤ width → 1 ≤ words → 1 ≤ length rows →
    AllByRecursion (λ (row : List ℕ). length row ≡ words) rows → 0 < length (join_with_byte 59 (map (row_text width) rows))
table_is_some width words [] least some rows_some even = absurd (omega arith)
table_is_some width words (r ∷ rows) least some rows_some even =
    long_joined 59 (row_text width r) (map (row_text width) rows) (row_is_some width r least (omega (arith, even.0)))

pub value_is_some : (v : Value) → IsValue v → 0 < length (value_text v)
value_is_some (value.Word w) is = number_is_some w.width w.bits is.least
value_is_some (value.Row r) is = row_is_some r.width r.words is.least is.some
value_is_some (value.Table t) is =
    table_is_some t.width t.words t.rows is.least is.some is.rows_some (recursion_from_All (λ (row : List ℕ). length row ≡ t.words) t.rows is.even)
