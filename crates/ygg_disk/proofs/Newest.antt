-- What a read of a disk with pending writes sees.
use Rattle.std.proofs.Common.{
  ◌≡◌,
  ◌≢◌,
  ℕ,
  ◌<◌,
  ◌≤◌,
  Bool,
  true,
  false,
  ◌==◌,
  if◌then◌else◌,
  List,
  [],
  ◌∷◌,
  map,
  replicate,
  Option,
  Some,
  None,
  refl,
  sym,
  ap,
  ◌∙◌,
  arith,
}
use Rattle.std.proofs.lemmas.List.{length-set}
use Rattle.std.proofs.lemmas.List.Elements.{All-nil, All-cons, All-head, All-tail, All-append}
use Rattle.std.proofs.lemmas.Bool.Decides.{nat_tests}
use Rattle.std.specs.Prelude.{All, IfSome}
use Rattle.ygg_value.specs.Number.{Digits, Grid}
use Rattle.ygg_value.specs.Values.{table_read, table_write}
use Rattle.ygg_value.proofs.Places.{table_read_past, table_read-write_same, table_read-write_other}
use Rattle.ygg_base.specs.declared.geometry.Geometry.{Geometry}
use Rattle.ygg_disk.specs.Pending.{applied}
use Rattle.ygg_disk.specs.Marked.{MarkedWrite}
use Rattle.ygg_disk.specs.Waiting.{mark_of, marked, newest_at, seen_at, SeenThrough}
use Rattle.ygg_disk.specs.Size.{HasSize}
use Rattle.ygg_disk.specs.Rows.{IsDiskRow}
use Rattle.ygg_disk.specs.declared.waiting.Waiting.{Waiting}

-- a write keeps the size
size_kept : (g : Geometry) (t : Grid) (at : ℕ) (r : Digits) → HasSize g t → HasSize g (table_write t at r)
size_kept g t at r size = record { limits = size.limits; width = size.width; words = size.words; rows = length-set t.rows at r.words ∙ size.rows }

-- the rows after these writes
abbrev pub rows_after : List MarkedWrite → Grid → Grid
rows_after ms t = applied (map (λ (m : MarkedWrite). m.write) ms) t

-- the rows that wait have the disk's size, also in the other order
pub fits_marked : (g : Geometry) (ws : List Waiting) → All (λ (w : Waiting). IsDiskRow g w.row) ws →
    All (λ (m : MarkedWrite). IsDiskRow g m.write.row) (marked ws)
fits_marked g [] h = All-nil (λ (m : MarkedWrite). IsDiskRow g m.write.row)
fits_marked g (w ∷ ws) h =
    let P : MarkedWrite → Type 0 = λ m. IsDiskRow g m.write.row in
    let Q : Waiting → Type 0 = λ v. IsDiskRow g v.row in
    All-append P (marked ws) (mark_of w ∷ []) (fits_marked g ws (All-tail Q w ws h)) (All-cons P (mark_of w) [] (All-head Q w ws h) (All-nil P))

-- writes keep the size
pub size_after : (g : Geometry) (ms : List MarkedWrite) (t : Grid) → HasSize g t → HasSize g (rows_after ms t)
size_after g [] t size = size
size_after g (m ∷ ms) t size = size_kept g (rows_after ms t) m.write.at m.write.row (size_after g ms t size)

-- a read past the end sees zeros
pub read_past : (g : Geometry) (ms : List MarkedWrite) (t : Grid) (at : ℕ) → HasSize g t → g.rows ≤ at → table_read (rows_after ms t) at ≡ table_read t at
read_past g ms t at size h =
    let after : HasSize g (rows_after ms t) = size_after g ms t size in
    let zeros : ℕ → ℕ → Digits = λ width words. record { width = width; words = replicate words 0 } in
    table_read_past (rows_after ms t) at (omega (arith, after.rows))
    ∙ ap (λ w. zeros w (rows_after ms t).words) (after.width ∙ sym size.width) ∙ ap (zeros t.width) (after.words ∙ sym size.words)
    ∙ sym (table_read_past t at (omega (arith, size.rows)))

-- a read within sees the row of the newest write there, or else the stable row
pub read_newest :
    (g : Geometry) (ms : List MarkedWrite) (t : Grid) (at : ℕ) → HasSize g t → All (λ (m : MarkedWrite). IsDiskRow g m.write.row) ms → at < g.rows
    → table_read (rows_after ms t) at ≡ seen_at t at (newest_at at ms)
read_newest g [] t at size fits h = refl
read_newest g (m ∷ ms) t at size fits h =
    let P : MarkedWrite → Type 0 = λ m. IsDiskRow g m.write.row in
    step (m.write.at == at) refl (read_newest g ms t at size (All-tail P m ms fits) h) (All-head P m ms fits) (size_after g ms t size) where
      step :
          (b : Bool) → (m.write.at == at) ≡ b → table_read (rows_after ms t) at ≡ seen_at t at (newest_at at ms) → IsDiskRow g m.write.row →
          HasSize g (rows_after ms t)
          → table_read (rows_after (m ∷ ms) t) at ≡ seen_at t at (if b then Some m.write.row else newest_at at ms)
      step true e before row after =
          let same : at ≡ m.write.at = grind (arith, nat_tests) in
          ap (table_read (rows_after (m ∷ ms) t)) same
          ∙ table_read-write_same (rows_after ms t) m.write.at m.write.row (omega (arith, after.rows)) (row.width ∙ sym after.width)
      step false e before row after =
          let apart : at ≢ m.write.at = grind (arith, nat_tests) in
          table_read-write_other (rows_after ms t) m.write.at at m.write.row apart ∙ before

-- the newest write at a place has the disk's size
pub newest_fits : (g : Geometry) (ms : List MarkedWrite) (at : ℕ) → All (λ (m : MarkedWrite). IsDiskRow g m.write.row) ms →
    IfSome (newest_at at ms) (λ r. IsDiskRow g r)
newest_fits g [] at fits = tt
newest_fits g (m ∷ ms) at fits =
    let P : MarkedWrite → Type 0 = λ m. IsDiskRow g m.write.row in
    by (m.write.at == at) (All-head P m ms fits) (newest_fits g ms at (All-tail P m ms fits)) where
      by : (b : Bool) → IsDiskRow g m.write.row → IfSome (newest_at at ms) (λ r. IsDiskRow g r) →
          IfSome (if b then Some m.write.row else newest_at at ms) (λ r. IsDiskRow g r)
      by true here before = here
      by false here before = before

-- what is found within, and nothing past the end
pub seen_within :
    (g : Geometry) (ms : List MarkedWrite) (at : ℕ) (found : Option Digits) → All (λ (m : MarkedWrite). IsDiskRow g m.write.row) ms → at < g.rows →
    found ≡ newest_at at ms → SeenThrough g ms at found
seen_within g ms at found fits h e t size = read_newest g ms t at size fits h ∙ ap (seen_at t at) (sym e)

pub seen_past : (g : Geometry) (ms : List MarkedWrite) (at : ℕ) → g.rows ≤ at → SeenThrough g ms at None
seen_past g ms at h t size = read_past g ms t at size h
