-- Rows and tables at a place, and whole values.
use Rattle.std.specs.Prelude.{ℕ, Bool, true, false, not, ◌==◌, ◌&&◌, List, [], ◌∷◌, unwrap_or, slice_get, slice_set, replicate}
use Rattle.std.specs.Str.{bytes_eq}
use Rattle.ygg_value.specs.Number.{Number, Digits, Grid}
use Rattle.ygg_value.specs.Words.{word, apply_to, bit_of}
use Rattle.ygg_value.specs.declared.operation.Op.{Op}
use Rattle.ygg_value.specs.declared.operation.Op.TheVariants.{Eq, Ne}
use Rattle.ygg_value.specs.declared.row.Value.{Value}
use Rattle.ygg_value.specs.declared.row.Value.TheVariants.{Word, Row, Table}

-- the word at a place of a row; past the end, 0
abbrev pub row_read : Digits → ℕ → Number
row_read r at = word r.width (unwrap_or (slice_get r.words at) 0)

-- the row at a place of a table; past the end, zeros
abbrev pub table_read : Grid → ℕ → Digits
table_read t at = record { width = t.width; words = unwrap_or (slice_get t.rows at) (replicate t.words 0) }

-- the row with this word at a place; past the end, the same row
abbrev pub row_write : Digits → ℕ → Number → Digits
row_write r at w = record r { words = slice_set r.words at w.bits }

-- the table with this row at a place; past the end, the same table
abbrev pub table_write : Grid → ℕ → Digits → Grid
table_write t at r = record t { rows = slice_set t.rows at r.words }

-- the word that a value is; a row or a table, which no typed file has there, counts as a single digit 0
abbrev pub word_in : Value → Number
word_in (Word w) = w
word_in (Row r) = word 1 0
word_in (Table t) = word 1 0

-- the row that a value is; a word or a table, which no typed file has there, counts as no words
abbrev pub row_in : Value → Digits
row_in (Word w) = record { width = w.width; words = [] }
row_in (Row r) = r
row_in (Table t) = record { width = t.width; words = [] }

-- the word of a single digit that says whether the test passes
abbrev pub digit : Bool → Value
digit b = Word (word 1 (bit_of b))

-- whether two lists have equal rows in the same order
abbrev pub rows_eq : List (List ℕ) → List (List ℕ) → Bool
rows_eq [] [] = true
rows_eq (a ∷ left) (b ∷ right) = bytes_eq a b && rows_eq left right
rows_eq [] (b ∷ right) = false
rows_eq (a ∷ left) [] = false

-- whether two values have one shape and the same numbers
abbrev pub same_value : Value → Value → Bool
same_value (Word a) (Word b) = a.width == b.width && a.bits == b.bits
same_value (Row a) (Row b) = a.width == b.width && bytes_eq a.words b.words
same_value (Table a) (Table b) = a.width == b.width && a.words == b.words && rows_eq a.rows b.rows
same_value _ _ = false

-- an operation on two values; only equality is asked of rows and tables
abbrev pub apply_value : Op → Value → Value → Value
apply_value Eq a b = digit (same_value a b)
apply_value Ne a b = digit (not (same_value a b))
apply_value op a b = Word (apply_to op (word_in a) (word_in b))

-- a word of a row, or a row of a table; a word, which no typed file takes apart, gives a single digit 0
abbrev pub part_of : Value → ℕ → Value
part_of (Word w) at = Word (word 1 0)
part_of (Row r) at = Word (row_read r at)
part_of (Table t) at = Row (table_read t at)

-- the value with the part at these places written anew, the outermost place first; with no place, the new value
abbrev pub with_part : Value → List ℕ → Value → Value
with_part old [] new = new
with_part (Word w) (i ∷ is) new = Word w
with_part (Row r) (i ∷ is) new = Row (row_write r i (word_in new))
with_part (Table t) (i ∷ []) new = Table (table_write t i (row_in new))
with_part (Table t) (i ∷ j ∷ is) new = Table (table_write t i (row_write (table_read t i) j (word_in new)))
