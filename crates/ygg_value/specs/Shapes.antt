-- Shapes: what a shape may be, its zeros, and the shape of a value.
use Rattle.std.specs.Prelude.{ℕ, ◌≤◌, ◌*◌, length, replicate}
use Rattle.ygg_value.specs.Number.{IsWord, IsRow, IsTable}
use Rattle.ygg_value.specs.declared.row.Value.{Value}
use Rattle.ygg_value.specs.declared.row.Value.TheVariants.{Word, Row, Table}
use Rattle.ygg_value.specs.declared.shape.Shape.{Shape}
use Rattle.ygg_value.specs.declared.shape.Shape.TheVariants as shape

-- n is from 1 to the limit
abbrev pub Within : ℕ → ℕ → Type 0
Within limit n = (1 ≤ n) × (n ≤ limit)

-- widths of 1 to 64, 1 to 64 words a row, 1 to 256 rows, and at most 4,096 words in all
abbrev pub IsShape : Shape → Type 0
IsShape (shape.Word width) = Within 64 width
IsShape (shape.Row words width) = Within 64 words × Within 64 width
IsShape (shape.Table rows words width) = Within 256 rows × Within 64 words × Within 64 width × (rows * words ≤ 4096)

-- the value of a shape whose numbers are all 0
abbrev pub zero_of : Shape → Value
zero_of (shape.Word width) = Word (record { width = width; bits = 0 })
zero_of (shape.Row words width) = Row (record { width = width; words = replicate words 0 })
zero_of (shape.Table rows words width) = Table (record { width = width; words = words; rows = replicate rows (replicate words 0) })

-- the shape of a value
abbrev pub shape_of : Value → Shape
shape_of (Word w) = shape.Word w.width
shape_of (Row r) = shape.Row (length r.words) r.width
shape_of (Table t) = shape.Table (length t.rows) t.words t.width

-- the value keeps the limits: its shape may be, each of its rows has as many numbers, and each number fits its width
abbrev pub IsValue : Value → Type 0
IsValue (Word w) = IsWord w
IsValue (Row r) = IsRow r
IsValue (Table t) = IsTable t
