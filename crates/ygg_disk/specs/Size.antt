-- A disk's size, and its table of zeros.
use Rattle.std.specs.Prelude.{◌≡◌, length, replicate}
use Rattle.ygg_value.specs.Number.{Digits, Grid}
use Rattle.ygg_value.specs.Shapes.{IsShape}
use Rattle.ygg_value.specs.declared.shape.Shape.{Shape}
use Rattle.ygg_value.specs.declared.shape.Shape.TheVariants as shape
use Rattle.ygg_base.specs.declared.geometry.Geometry.{Geometry}

-- the shape of a disk's table: 1 to 256 rows of 1 to 64 words, at most 4,096 words in all, of 1 to 64 digits
abbrev pub table_shape : Geometry → Shape
table_shape g = shape.Table g.rows g.words g.width

-- the shape of a row of a table
abbrev pub row_shape : Grid → Shape
row_shape t = shape.Row t.words t.width

-- a table of zeros of the disk's size
abbrev pub zeros_of : Geometry → Grid
zeros_of g = record { width = g.width; words = g.words; rows = replicate g.rows (replicate g.words 0) }

-- the table has the disk's size, which keeps the limits
pub record HasSize (g : Geometry) (t : Grid) : Type 0 where
  pub limits : IsShape (table_shape g)
  pub width : t.width ≡ g.width
  pub words : t.words ≡ g.words
  pub rows : length t.rows ≡ g.rows

-- the row has as many words as those of the table, of the same width
pub record IsRowOf (t : Grid) (r : Digits) : Type 0 where
  pub width : r.width ≡ t.width
  pub words : length r.words ≡ t.words
