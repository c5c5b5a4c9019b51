-- Laws of values, which hold at all widths and places.
use Rattle.std.specs.Prelude.{ℕ, ◌≡◌, ◌≢◌, ◌<◌, ◌+◌, ◌-◌, ◌%◌, ◌^◌, min, max, length}
use Rattle.std.specs.Int.{bit_at}
use Rattle.ygg_value.specs.Number.{Number, IsWord, Digits, Grid}
use Rattle.ygg_value.specs.Values.{row_read, row_write, table_read, table_write}
use Rattle.ygg_value.specs.Words.{word, apply_to, CanApply, not_of, resized}
use Rattle.ygg_value.specs.declared.operation.Op.{Op}
use Rattle.ygg_value.specs.declared.operation.Op.TheVariants.{And, Or, Xor}

-- what an operation gives of words is a word
abbrev pub ResultsAreWords : Type 0
ResultsAreWords = (op : Op) (a b : Number) → IsWord a → IsWord b → CanApply op a b → IsWord (apply_to op a b)

-- two words of one width are equal where they have the same digits
abbrev pub DigitsTellWords : Type 0
DigitsTellWords =
    (a b : Number) → IsWord a → IsWord b → a.width ≡ b.width
    → ((place : ℕ) → place < a.width → bit_at a.bits place ≡ bit_at b.bits place) → a ≡ b

-- a digit of a conjunction is 1 where both digits are
abbrev pub AndByDigits : Type 0
AndByDigits = (a b : Number) (place : ℕ) → bit_at (apply_to And a b).bits place ≡ min (bit_at a.bits place) (bit_at b.bits place)

-- a digit of a disjunction is 1 where one of the digits is
abbrev pub OrByDigits : Type 0
OrByDigits = (a b : Number) (place : ℕ) → bit_at (apply_to Or a b).bits place ≡ max (bit_at a.bits place) (bit_at b.bits place)

-- a digit of an exclusive disjunction is 1 where just one of the digits is
abbrev pub XorByDigits : Type 0
XorByDigits = (a b : Number) (place : ℕ) → bit_at (apply_to Xor a b).bits place ≡ (bit_at a.bits place + bit_at b.bits place) % 2

-- a digit of a complement is 1 where the digit is 0
abbrev pub NotByDigits : Type 0
NotByDigits = (a : Number) (place : ℕ) → IsWord a → place < a.width → bit_at (not_of a).bits place ≡ 1 - bit_at a.bits place

-- two resizes keep as many low digits as the narrower of them
abbrev pub ResizesCompose : Type 0
ResizesCompose = (a : Number) (first second : ℕ) → resized (resized a first) second ≡ word second (a.bits % 2 ^ min first second)

-- a resize to a word's own width changes nothing
abbrev pub ResizeKeeps : Type 0
ResizeKeeps = (a : Number) → IsWord a → resized a a.width ≡ a

-- a row gives back the word that was written
abbrev pub RowGivesWritten : Type 0
RowGivesWritten = (row : Digits) (at : ℕ) (new : Number) → at < length row.words → new.width ≡ row.width → row_read (row_write row at new) at ≡ new

-- a row keeps its words at the other places
abbrev pub RowKeepsOthers : Type 0
RowKeepsOthers = (row : Digits) (at place : ℕ) (new : Number) → place ≢ at → row_read (row_write row at new) place ≡ row_read row place

-- a table gives back the row that was written
abbrev pub TableGivesWritten : Type 0
TableGivesWritten = (table : Grid) (at : ℕ) (new : Digits) → at < length table.rows → new.width ≡ table.width → table_read (table_write table at new) at ≡ new

-- a table keeps its rows at the other places
abbrev pub TableKeepsOthers : Type 0
TableKeepsOthers = (table : Grid) (at place : ℕ) (new : Digits) → place ≢ at → table_read (table_write table at new) place ≡ table_read table place
