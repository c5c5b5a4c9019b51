-- What is read, written and made keeps the limits of words, rows and tables.
use Rattle.std.proofs.Common.{◌≡◌, ℕ, ◌<◌, ◌≤◌, ◌^◌, List, length, get_or, replicate, All, refl, subst, ap}
use Rattle.std.proofs.lemmas.Bool.{cases_lt}
use Rattle.std.proofs.lemmas.List.{length-set, length-replicate, get_or_past}
use Rattle.std.proofs.lemmas.List.Elements.{All-get_or, All-set, All-replicate}
use Rattle.std.proofs.lemmas.Nat.{pow_pos}
use Rattle.std.proofs.Common.{◌⊎◌, inl, inr}
use Rattle.ygg_value.proofs.Places.{row_read-get_or, table_read-get_or}
use Rattle.ygg_value.specs.Number.{Number, IsWord, Digits, IsRow, Grid, IsTable}
use Rattle.ygg_value.specs.Shapes.{IsShape, IsValue, zero_of, shape_of}
use Rattle.ygg_value.specs.Values.{row_read, row_write, table_read, table_write}
use Rattle.ygg_value.specs.declared.row.Value.{Value}
use Rattle.ygg_value.specs.declared.row.Value.TheVariants.{Word, Row, Table}
use Rattle.ygg_value.specs.declared.shape.Shape.{Shape}
use Rattle.ygg_value.specs.declared.shape.Shape.TheVariants as shape

-- what holds of each item and of the default holds of a look-up
get_or-All : {X : Type 0} (P : X → Type 0) (xs : List X) (at : ℕ) (d : X) → All P xs → P d → P (get_or xs at d)
get_or-All P xs at d each default = go (cases_lt at (length xs)) where
  go : (at < length xs) ⊎ (length xs ≤ at) → P (get_or xs at d)
  go (inl h) = All-get_or P xs at d h each
  go (inr h) = rw (get_or_past xs at d h) default

-- a read gives a word or a row, and a write leaves a row or a table
pub row_read-IsWord : (row : Digits) (at : ℕ) → IsRow row → IsWord (row_read row at)
row_read-IsWord row at x = rw (row_read-get_or row at)
    (record { least = x.least; most = x.most; fits = get_or-All (λ n. n < 2 ^ row.width) row.words at 0 x.fits (pow_pos row.width) })

pub row_write-IsRow : (row : Digits) (at : ℕ) (new : Number) → IsRow row → new.bits < 2 ^ row.width → IsRow (row_write row at new)
row_write-IsRow row at new x h = record {
  least = x.least;
  most = x.most;
  some = rw (length-set row.words at new.bits) x.some;
  few = rw (length-set row.words at new.bits) x.few;
  fits = All-set (λ n. n < 2 ^ row.width) row.words at new.bits h x.fits;
}

pub table_read-IsRow : (table : Grid) (at : ℕ) → IsTable table → IsRow (table_read table at)
table_read-IsRow table at x =
    let Fit : List ℕ → Type 0 = λ row. (length row ≡ table.words) × All (λ n. n < 2 ^ table.width) row in
    let each : All Fit table.rows = λ k d h. (x.even k d h, x.fits k d h) in
    let zeros : Fit (replicate table.words 0) = (
      length-replicate table.words 0,
      All-replicate (λ n. n < 2 ^ table.width) table.words 0 (pow_pos table.width),
    ) in
    let (long, fits) = get_or-All Fit table.rows at (replicate table.words 0) each zeros in
    rw (table_read-get_or table at) (record { least = x.least; most = x.most; some = rw long x.some; few = rw long x.few; fits = fits })

pub table_write-IsTable : (table : Grid) (at : ℕ) (new : Digits) → IsTable table → IsRow new → new.width ≡ table.width →
    length new.words ≡ table.words → IsTable (table_write table at new)
table_write-IsTable table at new x y wide long =
    let Fit : ℕ → Type 0 = λ w. All (λ n. n < 2 ^ w) new.words in
    record {
      least = x.least;
      most = x.most;
      some = x.some;
      few = x.few;
      rows_some = rw (length-set table.rows at new.words) x.rows_some;
      rows_few = rw (length-set table.rows at new.words) x.rows_few;
      bounded = rw (length-set table.rows at new.words) x.bounded;
      even = All-set (λ (row : List ℕ). length row ≡ table.words) table.rows at new.words long x.even;
      fits = All-set (λ (row : List ℕ). All (λ n. n < 2 ^ table.width) row) table.rows at new.words (subst Fit wide y.fits) x.fits;
    }

-- the shape of a value may be
pub shape_of-IsShape : (value : Value) → IsValue value → IsShape (shape_of value)
shape_of-IsShape (Word w) x = (x.least, x.most)
shape_of-IsShape (Row r) x = ((x.some, x.few), (x.least, x.most))
shape_of-IsShape (Table t) x = ((x.rows_some, x.rows_few), (x.some, x.few), (x.least, x.most), x.bounded)

-- zeros have their shape
pub shape_of-zero_of : (s : Shape) → shape_of (zero_of s) ≡ s
shape_of-zero_of (shape.Word width) = refl
shape_of-zero_of (shape.Row words width) = ap (λ n. shape.Row n width) (length-replicate {A = ℕ} words 0)
shape_of-zero_of (shape.Table rows words width) = ap (λ n. shape.Table n words width) (length-replicate {A = List ℕ} rows (replicate words 0))

-- a write keeps the shape
pub shape_of-row_write : (row : Digits) (at : ℕ) (new : Number) → shape_of (Row (row_write row at new)) ≡ shape_of (Row row)
shape_of-row_write row at new = ap (λ n. shape.Row n row.width) (length-set row.words at new.bits)

pub shape_of-table_write : (table : Grid) (at : ℕ) (new : Digits) → shape_of (Table (table_write table at new)) ≡ shape_of (Table table)
shape_of-table_write table at new = ap (λ n. shape.Table n table.words table.width) (length-set table.rows at new.words)

-- zeros of a shape that may be are a value
pub zero_of-IsValue : (s : Shape) → IsShape s → IsValue (zero_of s)
zero_of-IsValue (shape.Word width) x = record { least = x.0; most = x.1; fits = pow_pos width }
zero_of-IsValue (shape.Row words width) (h, w) = record {
  least = w.0;
  most = w.1;
  some = rw (length-replicate {A = ℕ} words 0) h.0;
  few = rw (length-replicate {A = ℕ} words 0) h.1;
  fits = All-replicate (λ n. n < 2 ^ width) words 0 (pow_pos width);
}
zero_of-IsValue (shape.Table rows words width) (r, h, w, m) = record {
  least = w.0;
  most = w.1;
  some = h.0;
  few = h.1;
  rows_some = rw (length-replicate {A = List ℕ} rows (replicate words 0)) r.0;
  rows_few = rw (length-replicate {A = List ℕ} rows (replicate words 0)) r.1;
  bounded = rw (length-replicate {A = List ℕ} rows (replicate words 0)) m;
  even = All-replicate (λ (row : List ℕ). length row ≡ words) rows (replicate words 0) (length-replicate {A = ℕ} words 0);
  fits = All-replicate (λ (row : List ℕ). All (λ n. n < 2 ^ width) row) rows (replicate words 0) (All-replicate (λ n. n < 2 ^ width) words 0 (pow_pos width));
}
