-- Rows copied one after another from a table to another of its size.
use Rattle.std.proofs.Common.{◌≡◌, ◌≢◌, ℕ, ◌+◌, ◌<◌, length, get_or, replicate, refl, sym, ap, ◌∙◌, subst, arith, below_more}
use Rattle.std.proofs.lemmas.List.{ext_get_or, length-set, length-replicate}
use Rattle.ygg_value.specs.Number.{Digits, Grid}
use Rattle.ygg_value.specs.Values.{table_read, table_write}
use Rattle.ygg_value.proofs.Places.{table_read-get_or, table_read-write_same, table_read-write_other}
use Rattle.ygg_base.specs.declared.geometry.Geometry.{Geometry}
use Rattle.ygg_value.specs.declared.shape.Shape.TheVariants as shape
use Rattle.ygg_disk.specs.Rows.{IsDiskRow}
use Rattle.ygg_disk.specs.Size.{row_shape, HasSize, IsRowOf}

-- the rows before a place are copied
pub record Copied (g : Geometry) (from into : Grid) (spare : Digits) (place : ℕ) : Type 0 where
  pub size : HasSize g into
  pub fits : IsRowOf into spare
  pub done : (k : ℕ) → k < place → table_read into k ≡ table_read from k

-- all rows are copied
pub copied_all : (g : Geometry) (from into : Grid) (spare : Digits) → HasSize g from → Copied g from into spare g.rows → into ≡ from
copied_all g from into spare size c = same wide long rows where
  wide : into.width ≡ from.width
  wide = c.size.width ∙ sym size.width

  long : into.words ≡ from.words
  long = c.size.words ∙ sym size.words

  at : (k : ℕ) → k < length into.rows → get_or into.rows k (replicate into.words 0) ≡ get_or from.rows k (replicate into.words 0)
  at k h =
      ap (λ (r : Digits). r.words) (sym (table_read-get_or into k) ∙ c.done k (omega (arith, c.size.rows)) ∙ table_read-get_or from k)
      ∙ ap (λ n. get_or from.rows k (replicate n 0)) (sym long)

  rows : into.rows ≡ from.rows
  rows = ext_get_or (replicate into.words 0) into.rows from.rows (c.size.rows ∙ sym size.rows) at

  same : into.width ≡ from.width → into.words ≡ from.words → into.rows ≡ from.rows → into ≡ from
  same p q r =
      ap (λ w. record { width = w; words = into.words; rows = into.rows }) p ∙ ap (λ n. record { width = from.width; words = n; rows = into.rows }) q
      ∙ ap (λ rs. record { width = from.width; words = from.words; rows = rs }) r

-- a row of zeros of the disk's size is one of its tables'
pub zeros_fit : (g : Geometry) (t : Grid) (r : Digits) → HasSize g t → r ≡ record { width = g.width; words = replicate g.words 0 } → IsRowOf t r
zeros_fit g t r size e = record {
  width = ap (λ (x : Digits). x.width) e ∙ sym size.width;
  words = ap (λ (x : Digits). length x.words) e ∙ length-replicate g.words 0 ∙ sym size.words;
}

-- a table keeps its size where a row is written
pub size_written : (g : Geometry) (t t' : Grid) (at : ℕ) (r : Digits) → HasSize g t → t' ≡ table_write t at r → HasSize g t'
size_written g t t' at r size e = subst (HasSize g) (sym e) (record {
  limits = size.limits;
  width = size.width;
  words = size.words;
  rows = length-set t.rows at r.words ∙ size.rows;
})

-- one row more is copied
pub copied_more : (g : Geometry) (from into into' : Grid) (spare spare' : Digits) (place : ℕ) → HasSize g from → Copied g from into spare place →
    place < g.rows → spare' ≡ table_read from place → length spare'.words ≡ length spare.words → into' ≡ table_write into place spare' →
    Copied g from into' spare' (place + 1)
copied_more g from into into' spare spare' place size c l read long write = subst (λ (t : Grid). Copied g from t spare' (place + 1)) (sym write) (record {
  size = size_written g into (table_write into place spare') place spare' c.size refl;
  fits = record { width = wide; words = long ∙ c.fits.words };
  done = below_more (λ k. table_read (table_write into place spare') k ≡ table_read from k) place below same;
}) where
  wide : spare'.width ≡ into.width
  wide = ap (λ (r : Digits). r.width) read ∙ size.width ∙ sym c.size.width

  same : table_read (table_write into place spare') place ≡ table_read from place
  same = table_read-write_same into place spare' (omega (arith, c.size.rows)) wide ∙ read

  below : (k : ℕ) → k < place → table_read (table_write into place spare') k ≡ table_read from k
  below k h = let apart : k ≢ place = omega arith in table_read-write_other into place k spare' apart ∙ c.done k h

-- a row of the shape of a table's rows is one of its rows
pub row_of : (t : Grid) (r : Digits) → shape.Row (length r.words) r.width ≡ row_shape t → IsRowOf t r
row_of t r e = record { width = cc; words = cc }

pub row_of_same : (t t' : Grid) (r : Digits) → IsRowOf t r → row_shape t' ≡ row_shape t → IsRowOf t' r
row_of_same t t' r h e = let p : t'.width ≡ t.width = cc in let q : t'.words ≡ t.words = cc in record { width = h.width ∙ sym p; words = h.words ∙ sym q }

-- a copy of such a row has the size of the disk's rows
pub disk_row : (g : Geometry) (t : Grid) (r r' : Digits) → HasSize g t → IsRowOf t r → r' ≡ r → IsDiskRow g r'
disk_row g t r r' size h e = record {
  width = ap (λ (x : Digits). x.width) e ∙ h.width ∙ size.width;
  words = ap (λ (x : Digits). length x.words) e ∙ h.words ∙ size.words;
}
