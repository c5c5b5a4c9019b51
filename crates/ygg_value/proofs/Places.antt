-- Rows and tables after a write.
use Rattle.std.proofs.Common.{◌≡◌, ◌≢◌, ℕ, ◌<◌, ◌≤◌, length, get_or, set, replicate, sym, ap, ◌∙◌}
use Rattle.std.proofs.lemmas.List.{get_or-set_same, get_or-set_other, get_or_past, set_past, set-set, set_comm, set-get_or}
use Rattle.std.proofs.lemmas.Option.{unwrap_or-slice_get}
use Rattle.ygg_value.specs.Number.{Number, Digits, Grid}
use Rattle.ygg_value.specs.Values.{row_read, row_write, table_read, table_write}
use Rattle.ygg_value.specs.Words.{word}

-- a read as a look-up in the list, 0 past the end
pub row_read-get_or : (row : Digits) (at : ℕ) → row_read row at ≡ word row.width (get_or row.words at 0)
row_read-get_or row at = ap (word row.width) (unwrap_or-slice_get row.words at 0)

pub row_read_past : (row : Digits) (at : ℕ) → length row.words ≤ at → row_read row at ≡ word row.width 0
row_read_past row at h = row_read-get_or row at ∙ ap (word row.width) (get_or_past row.words at 0 h)

pub row_write_past : (row : Digits) (at : ℕ) (new : Number) → length row.words ≤ at → row_write row at new ≡ row
row_write_past row at new h = ap (λ ns. record { width = row.width; words = ns }) (set_past row.words at new.bits h)

-- the word that was written
pub row_read-write_same : (row : Digits) (at : ℕ) (new : Number) → at < length row.words → new.width ≡ row.width → row_read (row_write row at new) at ≡ new
row_read-write_same row at new h wide =
    row_read-get_or (row_write row at new) at ∙ ap (word row.width) (get_or-set_same row.words at new.bits 0 h) ∙ ap (λ w. word w new.bits) (sym wide)

-- elsewhere the words are as before
pub row_read-write_other : (row : Digits) (at place : ℕ) (new : Number) → place ≢ at → row_read (row_write row at new) place ≡ row_read row place
row_read-write_other row at place new apart =
    row_read-get_or (row_write row at new) place ∙ ap (word row.width) (get_or-set_other row.words at place new.bits 0 apart) ∙ sym (row_read-get_or row place)

-- the second of two writes at a place counts
pub row_write-write_same : (row : Digits) (at : ℕ) (first second : Number) → row_write (row_write row at first) at second ≡ row_write row at second
row_write-write_same row at first second = ap (λ ns. record { width = row.width; words = ns }) (set-set row.words at first.bits second.bits)

-- writes at two places are in any order
pub row_write-write_other : (row : Digits) (i j : ℕ) (a b : Number) → i ≢ j → row_write (row_write row i a) j b ≡ row_write (row_write row j b) i a
row_write-write_other row i j a b apart = ap (λ ns. record { width = row.width; words = ns }) (set_comm row.words i j a.bits b.bits apart)

-- a write of what is there changes nothing
pub row_write-read : (row : Digits) (at : ℕ) → row_write row at (row_read row at) ≡ row
row_write-read row at =
    ap (λ n. record { width = row.width; words = set row.words at n }) (unwrap_or-slice_get row.words at 0)
    ∙ ap (λ ns. record { width = row.width; words = ns }) (set-get_or row.words at 0)

-- a read as a look-up in the list of rows, zeros past the end
pub table_read-get_or : (table : Grid) (at : ℕ) → table_read table at ≡ record { width = table.width; words = get_or table.rows at (replicate table.words 0) }
table_read-get_or table at = ap (λ ns. record { width = table.width; words = ns }) (unwrap_or-slice_get table.rows at (replicate table.words 0))

pub table_read_past : (table : Grid) (at : ℕ) → length table.rows ≤ at → table_read table at ≡ record { width = table.width; words = replicate table.words 0 }
table_read_past table at h =
    table_read-get_or table at ∙ ap (λ ns. record { width = table.width; words = ns }) (get_or_past table.rows at (replicate table.words 0) h)

pub table_write_past : (table : Grid) (at : ℕ) (new : Digits) → length table.rows ≤ at → table_write table at new ≡ table
table_write_past table at new h = ap (λ rs. record { width = table.width; words = table.words; rows = rs }) (set_past table.rows at new.words h)

-- the row that was written
pub table_read-write_same : (table : Grid) (at : ℕ) (new : Digits) → at < length table.rows → new.width ≡ table.width →
    table_read (table_write table at new) at ≡ new
table_read-write_same table at new h wide =
    table_read-get_or (table_write table at new) at ∙ ap (λ ns. record { width = table.width; words = ns })
    (get_or-set_same table.rows at new.words (replicate table.words 0) h)
    ∙ ap (λ w. record { width = w; words = new.words }) (sym wide)

-- elsewhere the rows are as before
pub table_read-write_other : (table : Grid) (at place : ℕ) (new : Digits) → place ≢ at → table_read (table_write table at new) place ≡ table_read table place
table_read-write_other table at place new apart =
    table_read-get_or (table_write table at new) place
    ∙ ap (λ ns. record { width = table.width; words = ns }) (get_or-set_other table.rows at place new.words (replicate table.words 0) apart)
    ∙ sym (table_read-get_or table place)

-- the second of two writes at a place counts
pub table_write-write_same : (table : Grid) (at : ℕ) (first second : Digits) → table_write (table_write table at first) at second ≡ table_write table at second
table_write-write_same table at first second = ap (λ rs. record { width = table.width; words = table.words; rows = rs })
    (set-set table.rows at first.words second.words)

-- writes at two places are in any order
pub table_write-write_other : (table : Grid) (i j : ℕ) (a b : Digits) → i ≢ j →
    table_write (table_write table i a) j b ≡ table_write (table_write table j b) i a
table_write-write_other table i j a b apart = ap (λ rs. record { width = table.width; words = table.words; rows = rs })
    (set_comm table.rows i j a.words b.words apart)

-- a write of what is there changes nothing
pub table_write-read : (table : Grid) (at : ℕ) → table_write table at (table_read table at) ≡ table
table_write-read table at =
    ap (λ ns. record { width = table.width; words = table.words; rows = set table.rows at ns }) (unwrap_or-slice_get table.rows at (replicate table.words 0))
    ∙ ap (λ rs. record { width = table.width; words = table.words; rows = rs }) (set-get_or table.rows at (replicate table.words 0))
