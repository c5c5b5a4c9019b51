-- How values are written: words by their digits, a row's words with `,` between them, a table's rows with `;` between them.
use Rattle.std.specs.Prelude.{ℕ, zero, suc, List, [], ◌∷◌, map, Option, Some, None, option_and_then}
use Rattle.std.specs.List.{join_with_byte}
use Rattle.std.specs.Option.{option_map}
use Rattle.ygg_value.specs.Words.{word}
use Rattle.ygg_value.specs.declared.row.Value.{Value}
use Rattle.ygg_value.specs.declared.row.Value.TheVariants.{Word, Row, Table}
use Rattle.ygg_value.specs.declared.shape.Shape.{Shape}
use Rattle.ygg_value.specs.declared.shape.Shape.TheVariants as shape
use Rattle.ygg_syntax.specs.declared.tree.TypeText.{TypeText}
use Rattle.ygg_type.specs.ygg_type_rules.Shapes.{shape_of}
use Rattle.ygg_sched.specs.Words.{parts}
use Rattle.ygg_sched.specs.Numbers.{number_in, number_text}

-- what so many pieces are, each read so, where there are no more pieces
abbrev pub exactly : {A : Type 0} → (List ℕ → Option A) → ℕ → List (List ℕ) → Option (List A)
exactly read zero [] = Some []
exactly read zero (piece ∷ pieces) = None
exactly read (suc count) [] = None
exactly read (suc count) (piece ∷ pieces) = option_and_then (λ x. option_map (λ xs. x ∷ xs) (exactly read count pieces)) (read piece)

-- the row's numbers that these bytes are
abbrev pub row_in : ℕ → ℕ → List ℕ → Option (List ℕ)
row_in width words bytes = exactly (number_in width) words (parts 44 bytes)

-- the table's rows that these bytes are
abbrev pub rows_in : ℕ → ℕ → ℕ → List ℕ → Option (List (List ℕ))
rows_in width words rows bytes = exactly (row_in width words) rows (parts 59 bytes)

-- the value of a shape that these bytes are
abbrev pub shaped_in : Shape → List ℕ → Option Value
shaped_in (shape.Word w) bytes = option_map (λ n. Word (word w n)) (number_in w bytes)
shaped_in (shape.Row m w) bytes = option_map (λ ns. Row (record { width = w; words = ns })) (row_in w m bytes)
shaped_in (shape.Table n m w) bytes = option_map (λ rows. Table (record { width = w; words = m; rows = rows })) (rows_in w m n bytes)

-- the value of a type that these bytes are; a type out of its limits, which no typed file has, has none
abbrev pub value_in : TypeText → List ℕ → Option Value
value_in t bytes = option_and_then (λ s. shaped_in s bytes) (shape_of t)

-- what stands before the piece at a place: nothing before the first, and the mark before each other
abbrev pub separator : ℕ → ℕ → List ℕ
separator mark zero = []
separator mark (suc place) = mark ∷ []

-- a row's numbers
abbrev pub row_text : ℕ → List ℕ → List ℕ
row_text width numbers = join_with_byte 44 (map (number_text width) numbers)

-- a value
abbrev pub value_text : Value → List ℕ
value_text (Word w) = number_text w.width w.bits
value_text (Row r) = row_text r.width r.words
value_text (Table t) = join_with_byte 59 (map (row_text t.width) t.rows)
