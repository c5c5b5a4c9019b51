-- Rows, tables and values whose words are terms: their shapes, and what they are worth.
use Rattle.std.specs.Prelude.{ℕ, ◌≡◌, List, [], ◌∷◌, map, length, All}
use Rattle.ygg_value.specs.Number.{Digits, Grid}
use Rattle.ygg_value.specs.Shapes.{IsShape}
use Rattle.ygg_value.specs.declared.row.Value.{Value}
use Rattle.ygg_value.specs.declared.row.Value.TheVariants as value
use Rattle.ygg_value.specs.declared.shape.Shape.{Shape}
use Rattle.ygg_value.specs.declared.shape.Shape.TheVariants as shape
use Rattle.ygg_shape_words.specs.ygg_bank.Nodes.{HasWidth}
use Rattle.ygg_shape_words.specs.ygg_bank.Values.{Values}
use Rattle.ygg_shape_words.specs.ygg_bank.declared.node.Id.{Id}
use Rattle.ygg_shape_words.specs.ygg_bank.declared.node.Node.{Node}
use Rattle.ygg_shape_cells.specs.declared.terms.SymValue.{SymValue}
use Rattle.ygg_shape_cells.specs.declared.terms.SymValue.TheVariants.{Word, Row, Table}

-- a row of so many terms, each of which stands among the nodes with this width
pub record IsRow (nodes : List Node) (words width : ℕ) (row : List Id) : Type 0 where
  pub count : length row ≡ words
  pub wide : All (λ a. HasWidth nodes a width) row

-- a table whose rows have so many terms, each of which stands among the nodes with this width
pub record IsTable (nodes : List Node) (words width : ℕ) (table : List (List Id)) : Type 0 where
  pub limits : IsShape (shape.Table (length table) words width)
  pub rows : All (IsRow nodes words width) table

-- the terms of the value stand among the nodes, and it has this shape
abbrev pub HasShape : List Node → Shape → SymValue → Type 0
HasShape nodes (shape.Word width) (Word a) = HasWidth nodes a width
HasShape nodes (shape.Row words width) (Row row) = IsRow nodes words width row
HasShape nodes (shape.Table rows words width) (Table table) = (length table ≡ rows) × IsTable nodes words width table
HasShape nodes _ _ = ⊥

-- the terms of the value stand among the nodes, and it has this shape, which keeps the limits
pub record IsShaped (nodes : List Node) (s : Shape) (x : SymValue) : Type 0 where
  pub limits : IsShape s
  pub has : HasShape nodes s x

-- values of these shapes, one by one
abbrev pub AreShaped : List Node → List Shape → List SymValue → Type 0
AreShaped nodes [] [] = Unit {0}
AreShaped nodes (s ∷ shapes) (x ∷ xs) = IsShaped nodes s x × AreShaped nodes shapes xs
AreShaped nodes _ _ = ⊥

-- two values of one shape, which keeps the limits
pub record AreAlike (nodes : List Node) (one two : SymValue) : Type 0 where
  pub shape : Shape
  pub limits : IsShape shape
  pub one_has : HasShape nodes shape one
  pub two_has : HasShape nodes shape two

-- two rows of one shape
pub record RowsAlike (nodes : List Node) (one two : List Id) : Type 0 where
  pub words : ℕ
  pub width : ℕ
  pub one_is : IsRow nodes words width one
  pub two_is : IsRow nodes words width two

-- rows of one shape, and one more row of it
pub record AreRows (nodes : List Node) (rows : List (List Id)) (row : List Id) : Type 0 where
  pub words : ℕ
  pub width : ℕ
  pub rows_are : All (IsRow nodes words width) rows
  pub row_is : IsRow nodes words width row

-- two lists of equally many rows of one shape
pub record TablesAlike (nodes : List Node) (one two : List (List Id)) : Type 0 where
  pub words : ℕ
  pub width : ℕ
  pub count : length one ≡ length two
  pub one_are : All (IsRow nodes words width) one
  pub two_are : All (IsRow nodes words width) two

-- a table of some shape, whose terms stand among the nodes
pub record TableStands (nodes : List Node) (table : List (List Id)) : Type 0 where
  pub words : ℕ
  pub width : ℕ
  pub is : IsTable nodes words width table

-- a table of some shape and a row of its rows' shape, whose terms stand among the nodes
pub record CanStore (nodes : List Node) (table : List (List Id)) (row : List Id) : Type 0 where
  pub words : ℕ
  pub width : ℕ
  pub is : IsTable nodes words width table
  pub row_is : IsRow nodes words width row

-- the width of a row's first word; a row without words, which no shape has, counts as one digit wide
abbrev pub row_width : Values → List Id → ℕ
row_width v [] = 1
row_width v (a ∷ row) = (v a.0).width

-- the numbers of a row's words
abbrev pub numbers_of : Values → List Id → List ℕ
numbers_of v = map (λ a. (v a.0).bits)

-- the row that a row of terms is, where the term at each place has the given word
abbrev pub row_of : Values → List Id → Digits
row_of v row = record { width = row_width v row; words = numbers_of v row }

-- how many words the first row has; a table without rows, which no shape has, counts as one without words
abbrev pub words_in : List (List Id) → ℕ
words_in [] = 0
words_in (row ∷ rows) = length row

-- the width of the first row's first word; a table without rows counts as one digit wide
abbrev pub table_width : Values → List (List Id) → ℕ
table_width v [] = 1
table_width v (row ∷ rows) = row_width v row

-- the table that a table of terms is, where the term at each place has the given word
abbrev pub table_of : Values → List (List Id) → Grid
table_of v table = record { width = table_width v table; words = words_in table; rows = map (numbers_of v) table }

-- the value that a value of terms is, where the term at each place has the given word
abbrev pub worth : Values → SymValue → Value
worth v (Word a) = value.Word (v a.0)
worth v (Row row) = value.Row (row_of v row)
worth v (Table table) = value.Table (table_of v table)
