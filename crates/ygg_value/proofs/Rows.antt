-- Tables whose rows lie in one list, one after another.
use Rattle.std.proofs.Common.{
  ◌≡◌,
  ℕ,
  zero,
  suc,
  Bool,
  true,
  Vec,
  Global,
  ◌+◌,
  ◌-◌,
  ◌*◌,
  ◌/◌,
  ◌<◌,
  ◌≤◌,
  ◌^◌,
  List,
  ◌∷◌,
  ◌++◌,
  length,
  get_or,
  set,
  take,
  drop,
  replicate,
  All,
  refl,
  sym,
  subst,
  ap,
  ◌∙◌,
  arith,
}
use Rattle.std.proofs.Math.Nat.{zero-mul, suc-mul, mul-div_cancel, mul-le-mul_right}
use Rattle.std.proofs.lemmas.List.{
  drop-drop,
  take_at,
  drop_at,
  append_assoc,
  length-take,
  length-take-le,
  length-drop,
  take-append-drop,
  take-replicate,
  drop-replicate,
  nil_from_length,
  length-replicate,
  length-append,
  get_or_past,
  set_past,
  with_items_is,
}
use Rattle.std.proofs.lemmas.Option.{unwrap_or-slice_get}
use Rattle.std.proofs.lemmas.Nat.{pow_pos}
use Rattle.std.proofs.Math.Seq.{take-add}
use Rattle.std.proofs.lemmas.List.Elements.{All-nil, All-cons, All-take, All-drop, All-append, All-replicate}
use Rattle.std.specs.Str.{bytes_eq}
use Rattle.std.proofs.lemmas.Slice.Eq.{bytes_eq-Decides}
use Rattle.std.specs.Simd.{first_chunks}
use Rattle.std.specs.Vec.{with_items}
use borrow.Rule.Slice.PartMut.{put_mid}
use Rattle.ygg_value.specs.Flat.{IsFlat}
use Rattle.ygg_value.specs.Number.{Digits, Grid, IsRow, IsTable}
use Rattle.ygg_value.specs.Values.{table_read, table_write}
use Rattle.ygg_value.specs.Shapes.{IsShape}
use Rattle.ygg_value.specs.declared.shape.Shape.TheVariants as shape

-- there are as many rows as were cut
pub length-first_chunks : (n k : ℕ) (xs : List ℕ) → length (first_chunks n k xs) ≡ k
length-first_chunks n zero xs = refl
length-first_chunks n (suc k) xs = ap (λ (j : ℕ). suc j) (length-first_chunks n k (drop n xs))

-- each row lies at its place
pub get_or-first_chunks : (n k : ℕ) (xs : List ℕ) (i : ℕ) (d : List ℕ) → i < k → get_or (first_chunks n k xs) i d ≡ take n (drop (i * n) xs)
get_or-first_chunks n zero xs i d h = absurd (omega arith)
get_or-first_chunks n (suc k) xs zero d h = ap (λ m. take n (drop m xs)) (sym (zero-mul n))
get_or-first_chunks n (suc k) xs (suc i) d h =
    let here : n + i * n ≡ suc i * n = omega (arith, suc-mul i n) in
    get_or-first_chunks n k (drop n xs) i d (omega arith) ∙ ap (take n) (drop-drop (i * n) n xs ∙ ap (λ m. drop m xs) here)

-- a row written at its place
pub first_chunks-write :
    (n k : ℕ) (xs : List ℕ) (i : ℕ) (row : List ℕ) → i < k → length xs ≡ k * n → length row ≡ n
    → first_chunks n k (take (i * n) xs ++ (row ++ drop n (drop (i * n) xs))) ≡ set (first_chunks n k xs) i row
first_chunks-write n zero xs i row h long is = absurd (omega arith)
first_chunks-write n (suc k) xs zero row h long is =
    rw (zero-mul n) (rw (take_at row (drop n xs) n is, drop_at row (drop n xs) n is) refl)
first_chunks-write n (suc k) xs (suc i) row h long is =
    let here : suc i * n ≡ n + i * n = omega (arith, suc-mul i n) in
    let front : length (take n xs) ≡ n = length-take-le n xs (omega (arith, suc-mul k n)) in
    rw (here, take-add n (i * n) xs, ← drop-drop (i * n) n xs, append_assoc)
    (rw (
      take_at (take n xs) (take (i * n) (drop n xs) ++ (row ++ drop n (drop (i * n) (drop n xs)))) n front,
      drop_at (take n xs) (take (i * n) (drop n xs) ++ (row ++ drop n (drop (i * n) (drop n xs)))) n front,
    )
    (ap (λ rows. take n xs ∷ rows) (first_chunks-write n k (drop n xs) i row (omega arith) (omega (arith, length-drop n xs, suc-mul k n)) is)))

-- equal numbers one after another are rows of them
pub first_chunks-replicate : (n k x : ℕ) → first_chunks n k (replicate (k * n) x) ≡ replicate k (replicate n x)
first_chunks-replicate n zero x = refl
first_chunks-replicate n (suc k) x =
    let first : take n (replicate (suc k * n) x) ≡ replicate n x = take-replicate n (suc k * n) x (omega (arith, suc-mul k n)) in
    let size : suc k * n - n ≡ k * n = omega (arith, suc-mul k n) in
    let rest : drop n (replicate (suc k * n) x) ≡ replicate (k * n) x = drop-replicate n (suc k * n) x ∙ ap (λ m. replicate m x) size in
    ap (λ row. row ∷ first_chunks n k (drop n (replicate (suc k * n) x))) first
    ∙ ap (λ row. replicate n x ∷ row) (ap (first_chunks n k) rest ∙ first_chunks-replicate n k x)

-- the rows tell the list
pub same_from_chunks : (n k : ℕ) (xs ys : List ℕ) → length xs ≡ k * n → length ys ≡ k * n → first_chunks n k xs ≡ first_chunks n k ys → xs ≡ ys
same_from_chunks n zero xs ys p q e = nil_from_length xs (p ∙ zero-mul n) ∙ sym (nil_from_length ys (q ∙ zero-mul n))
same_from_chunks n (suc k) xs ys p q e =
    let first : take n xs ≡ take n ys = cc in
    let others : first_chunks n k (drop n xs) ≡ first_chunks n k (drop n ys) = cc in
    let rest : drop n xs ≡ drop n ys = same_from_chunks n k (drop n xs) (drop n ys) (omega (arith, length-drop n xs, suc-mul k n))
    (omega (arith, length-drop n ys, suc-mul k n)) others in
    sym (take-append-drop n xs) ∙ ap (λ a. a ++ drop n xs) first ∙ ap (λ a. take n ys ++ a) rest ∙ take-append-drop n ys

-- each row is as long as the others
pub All-even : (n k : ℕ) (xs : List ℕ) → length xs ≡ k * n → All (λ (row : List ℕ). length row ≡ n) (first_chunks n k xs)
All-even n zero xs long = All-nil (λ (row : List ℕ). length row ≡ n)
All-even n (suc k) xs long =
    All-cons (λ (row : List ℕ). length row ≡ n) (take n xs) (first_chunks n k (drop n xs)) (length-take-le n xs (omega (arith, suc-mul k n)))
    (All-even n k (drop n xs) (omega (arith, length-drop n xs, suc-mul k n)))

-- what holds of each number holds of those of each row
pub All-chunks : (P : ℕ → Type 0) (n k : ℕ) (xs : List ℕ) → All P xs → All (λ (row : List ℕ). All P row) (first_chunks n k xs)
All-chunks P n zero xs h = All-nil (λ (row : List ℕ). All P row)
All-chunks P n (suc k) xs h =
    All-cons (λ (row : List ℕ). All P row) (take n xs) (first_chunks n k (drop n xs)) (All-take P n xs h) (All-chunks P n k (drop n xs) (All-drop P n xs h))

-- the table whose rows lie flat
abbrev pub grid : ℕ → ℕ → ℕ → List ℕ → Grid
grid width words rows numbers = record { width = width; words = words; rows = first_chunks words rows numbers }

-- what lies flat is a table
pub table_from_flat : (width words rows : ℕ) (numbers : List ℕ) → IsFlat width words rows numbers → IsTable (grid width words rows numbers)
table_from_flat width words rows numbers flat = record {
  least = flat.least;
  most = flat.most;
  some = flat.some;
  few = flat.few;
  rows_some = rw (length-first_chunks words rows numbers) flat.rows_some;
  rows_few = rw (length-first_chunks words rows numbers) flat.rows_few;
  bounded = rw (length-first_chunks words rows numbers) flat.bounded;
  even = All-even words rows numbers flat.laid;
  fits = All-chunks (λ n. n < 2 ^ width) words rows numbers flat.fits;
}

-- two tables with rows of one length are equal where their numbers are
pub same_grids :
    (width words rows others : ℕ) (xs ys : List ℕ) → IsFlat width words rows xs → IsFlat width words others ys
    → (xs ≡ ys → grid width words rows xs ≡ grid width words others ys) × (grid width words rows xs ≡ grid width words others ys → xs ≡ ys)
same_grids width words rows others xs ys f g = (forth, back) where
  forth : xs ≡ ys → grid width words rows xs ≡ grid width words others ys
  forth e =
      let sizes : rows * words ≡ others * words = sym f.laid ∙ ap length e ∙ g.laid in
      let counts : rows ≡ others = sym (mul-div_cancel rows f.some) ∙ ap (λ m. m / words) sizes ∙ mul-div_cancel others f.some in
      ap (λ k. grid width words k xs) counts ∙ ap (grid width words others) e

  back : grid width words rows xs ≡ grid width words others ys → xs ≡ ys
  back e =
      let counts : rows ≡ others = sym (length-first_chunks words rows xs) ∙ ap (λ (t : Grid). length t.rows) e ∙ length-first_chunks words others ys in
      let same : first_chunks words others xs ≡ first_chunks words others ys = ap (λ k. first_chunks words k xs) (sym counts) ∙ ap (λ (t : Grid). t.rows) e in
      same_from_chunks words others xs ys (f.laid ∙ ap (λ k. k * words) counts) g.laid same

-- a row that lies within ends within
row_ends : (at rows words : ℕ) → at < rows → at * words + words ≤ rows * words
row_ends at rows words h =
    let more : suc at * words ≤ rows * words = mul-le-mul_right words h in
    omega (arith, suc-mul at words)

-- the same where the first two are known to be equal by other names, as a test on the numbers
pub tested_grids :
    (width words rows wide long others : ℕ) (xs ys : List ℕ) → IsFlat width words rows xs → IsFlat wide long others ys → width ≡ wide → words ≡ long
    → (test : Bool) → test ≡ bytes_eq xs ys
    → (test ≡ true → grid width words rows xs ≡ grid wide long others ys) × (grid width words rows xs ≡ grid wide long others ys → test ≡ true)
tested_grids width words rows wide long others xs ys f g e h test is =
    let P : ℕ → ℕ → Type 0 = λ v n. IsFlat v n others ys → (xs ≡ ys → grid width words rows xs ≡ grid v n others ys)
    × (grid width words rows xs ≡ grid v n others ys → xs ≡ ys) in
    let Q : ℕ → Type 0 = λ n. P width n in
    let R : ℕ → Type 0 = λ v. P v long in
    let same = subst R e (subst Q h (same_grids width words rows others xs ys f)) g in
    (λ t. same.0 ((bytes_eq-Decides xs ys).0 (sym is ∙ t)), λ t. is ∙ (bytes_eq-Decides xs ys).1 (same.1 t))

-- a table with a row written over stays flat, and is the table with that row at its place
pub flat_from_write :
    (width words rows : ℕ) (numbers : List ℕ) (at : ℕ) (row : List ℕ) → IsFlat width words rows numbers → at < rows → length row ≡ words
    → All (λ n. n < 2 ^ width) row → IsFlat width words rows (take (at * words) numbers ++ (row ++ drop words (drop (at * words) numbers)))
flat_from_write width words rows numbers at row f within long fits = record {
  least = f.least;
  most = f.most;
  some = f.some;
  few = f.few;
  rows_some = f.rows_some;
  rows_few = f.rows_few;
  bounded = f.bounded;
  laid =
      simp (length-append, length-take, length-drop) (omega (arith, row_ends at rows words within, f.laid, long));
  fits =
      All-append (λ n. n < 2 ^ width) (take (at * words) numbers) (row ++ drop words (drop (at * words) numbers))
      (All-take (λ n. n < 2 ^ width) (at * words) numbers f.fits)
      (All-append (λ n. n < 2 ^ width) row (drop words (drop (at * words) numbers)) fits
      (All-drop (λ n. n < 2 ^ width) words (drop (at * words) numbers) (All-drop (λ n. n < 2 ^ width) (at * words) numbers f.fits)));
}

-- a read at a row's place, and past the end
pub grid-read : (width words rows : ℕ) (numbers : List ℕ) (at : ℕ) → at < rows →
    table_read (grid width words rows numbers) at ≡ record { width = width; words = take words (drop (at * words) numbers) }
grid-read width words rows numbers at h =
    ap (λ w. record { width = width; words = w })
    (unwrap_or-slice_get (first_chunks words rows numbers) at (replicate words 0) ∙ get_or-first_chunks words rows numbers at (replicate words 0) h)

pub grid-read_past : (width words rows : ℕ) (numbers : List ℕ) (at : ℕ) → rows ≤ at →
    table_read (grid width words rows numbers) at ≡ record { width = width; words = replicate words 0 }
grid-read_past width words rows numbers at h =
    ap (λ w. record { width = width; words = w })
    (unwrap_or-slice_get (first_chunks words rows numbers) at (replicate words 0)
    ∙ get_or_past (first_chunks words rows numbers) at (replicate words 0) (rw (length-first_chunks words rows numbers) h))

-- the same where the row was taken out of a slice of the numbers
pub grid-read_slice :
    (width words rows : ℕ) (numbers xs : List ℕ) (at w : ℕ) (row : List ℕ) → at < rows → xs ≡ numbers → w ≡ width →
    row ≡ take (at * words + words - at * words) (drop (at * words) xs)
    → (let read : Digits = record { width = w; words = row } in read ≡ table_read (grid width words rows numbers) at)
grid-read_slice width words rows numbers xs at w row h same wide is =
    let size : at * words + words - at * words ≡ words = omega arith in
    let row_is : row ≡ take words (drop (at * words) numbers) = is ∙ ap (λ n. take n (drop (at * words) xs)) size
    ∙ ap (λ ns. take words (drop (at * words) ns)) same in
    ap (λ v. record { width = v; words = row }) wide ∙ ap (λ ns. record { width = width; words = ns }) row_is ∙ sym (grid-read width words rows numbers at h)

-- the same past the end where a row of that length was filled with zeros
pub grid-read_filled :
    (width words rows : ℕ) (numbers : List ℕ) (at w n : ℕ) (row : List ℕ) → rows ≤ at → w ≡ width → n ≡ words → row ≡ replicate n 0
    → (let read : Digits = record { width = w; words = row } in read ≡ table_read (grid width words rows numbers) at)
grid-read_filled width words rows numbers at w n row h wide long is =
    ap (λ v. record { width = v; words = row }) wide ∙ ap (λ ns. record { width = width; words = ns }) (is ∙ ap (λ m. replicate m 0) long)
    ∙ sym (grid-read_past width words rows numbers at h)

-- a write at a row's place, and past the end
pub grid-write :
    (width words rows : ℕ) (numbers : List ℕ) (at : ℕ) (row : Digits) → at < rows → length numbers ≡ rows * words → length row.words ≡ words
    → grid width words rows (take (at * words) numbers ++ (row.words ++ drop words (drop (at * words) numbers))) ≡ table_write
    (grid width words rows numbers) at row
grid-write width words rows numbers at row h long is =
    ap (λ r. record { width = width; words = words; rows = r }) (first_chunks-write words rows numbers at row.words h long is)

pub grid-write_past : (width words rows : ℕ) (numbers : List ℕ) (at : ℕ) (row : Digits) → rows ≤ at →
    grid width words rows numbers ≡ table_write (grid width words rows numbers) at row
grid-write_past width words rows numbers at row h =
    ap (λ r. record { width = width; words = words; rows = r })
    (sym (set_past (first_chunks words rows numbers) at row.words (rw (length-first_chunks words rows numbers) h)))

-- the numbers after the row has been written into a slice of them
pub written_slice :
    (v : Vec ℕ Global) (words rows at : ℕ) (xs ys row : List ℕ) → at < rows → length v.items ≡ rows * words → v.len ≡ length v.items → xs ≡ v.items →
    ys ≡ row → length row ≡ words
    → (with_items v (put_mid (at * words) (at * words + words - at * words) xs ys)).items ≡ take (at * words) v.items
    ++ (row ++ drop words (drop (at * words) v.items))
written_slice v words rows at xs ys row h laid len same is long =
    let size : at * words + words - at * words ≡ words = omega arith in
    let whole : put_mid (at * words) (at * words + words - at * words) xs ys ≡ take (at * words) v.items ++ (row ++ drop words (drop (at * words) v.items)) =
    ap (λ n. put_mid (at * words) n xs ys) size ∙ ap (λ ns. put_mid (at * words) words ns ys) same ∙ ap (put_mid (at * words) words v.items) is in
    let kept : length (take (at * words) v.items ++ (row ++ drop words (drop (at * words) v.items))) ≡ v.len =
    simp (length-append, length-take, length-drop) (omega (arith, row_ends at rows words h, laid, len, long)) in
    with_items_is v (put_mid (at * words) (at * words + words - at * words) xs ys) (ap length whole ∙ kept) ∙ whole

-- zeros of a shape that may be are a row
pub zero_row : (words width : ℕ) (numbers : List ℕ) → IsShape (shape.Row words width) → numbers ≡ replicate words 0 →
    IsRow (record { width = width; words = numbers })
zero_row words width numbers (h, w) e =
    let long : length numbers ≡ words = ap length e ∙ length-replicate words 0 in
    record {
      least = w.0;
      most = w.1;
      some = rw long h.0;
      few = rw long h.1;
      fits = rw e (All-replicate (λ n. n < 2 ^ width) words 0 (pow_pos width));
    }

-- zeros of a shape that may be are a table that lies flat
pub zero_flat : (rows words width : ℕ) (numbers : List ℕ) → IsShape (shape.Table rows words width) → numbers ≡ replicate (rows * words) 0 →
    IsFlat width words rows numbers
zero_flat rows words width numbers (r, h, w, m) e = record {
  least = w.0;
  most = w.1;
  some = h.0;
  few = h.1;
  rows_some = r.0;
  rows_few = r.1;
  bounded = m;
  laid = ap length e ∙ length-replicate (rows * words) 0;
  fits = rw e (All-replicate (λ n. n < 2 ^ width) (rows * words) 0 (pow_pos width));
}

-- such a table has rows of zeros
pub zero_grid : (rows words width : ℕ) (numbers : List ℕ) → numbers ≡ replicate (rows * words) 0 →
    grid width words rows numbers ≡ record { width = width; words = words; rows = replicate rows (replicate words 0) }
zero_grid rows words width numbers e =
    ap (λ r. record { width = width; words = words; rows = r }) (ap (first_chunks words rows) e ∙ first_chunks-replicate words rows 0)
