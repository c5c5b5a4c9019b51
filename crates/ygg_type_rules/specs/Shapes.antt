-- Shapes, and the shapes of types.
use Rattle.std.specs.Prelude.{ℕ, Bool, true, false, ◌&&◌, ◌==◌, if◌then◌else◌, Option, Some, None}
use Rattle.ygg_value.specs.declared.shape.Shape.{Shape}
use Rattle.ygg_value.specs.declared.shape.Shape.TheVariants.{Word, Row, Table}
use Rattle.ygg_syntax.specs.declared.tree.TypeText.{TypeText}
use Rattle.ygg_syntax.specs.declared.tree.TypeText.TheVariants as text
use Rattle.ygg_type_rules.specs.Limits.{width_fits, words_fit, rows_fit, words_fit_in}

-- whether it is a word's shape
abbrev pub is_word : Shape → Bool
is_word (Word w) = true
is_word (Row m w) = false
is_word (Table n m w) = false

-- the width of the words in it
abbrev pub width_of : Shape → ℕ
width_of (Word w) = w
width_of (Row m w) = w
width_of (Table n m w) = w

-- whether the shapes are equal
abbrev pub same_shape : Shape → Shape → Bool
same_shape (Word w) (Word w') = w == w'
same_shape (Row m w) (Row m' w') = m == m' && w == w'
same_shape (Table n m w) (Table n' m' w') = n == n' && m == m' && w == w'
same_shape _ _ = false

-- what an index leads to: a word of a row, a row of a table
abbrev pub part_shape : Shape → Shape
part_shape (Word w) = Word w
part_shape (Row m w) = Word w
part_shape (Table n m w) = Row m w

-- a word of this width, where there may be one
abbrev pub word_shape : ℕ → Option Shape
word_shape w = if width_fits w then Some (Word w) else None

-- a row of m words of this width, where there may be one
abbrev pub row_shape : ℕ → ℕ → Option Shape
row_shape m w = if words_fit m && width_fits w then Some (Row m w) else None

-- a table of n such rows, where there may be one
abbrev pub table_shape : ℕ → ℕ → ℕ → Option Shape
table_shape n m w = if rows_fit n && words_fit_in n m && width_fits w then Some (Table n m w) else None

-- The shape that a type names. A type with a type error names none: nothing is compared with what is declared so, and since the type error
-- of the type stands before all uses of the name, the least type error of the file is the same.
abbrev pub shape_of : TypeText → Option Shape
shape_of (text.Word w) = word_shape w.value
shape_of (text.Row m w) = row_shape m.value w.value
shape_of (text.Table n m w) = table_shape n.value m.value w.value

-- the shape that an answer's type names, if there is one
abbrev pub answer_shape : Option TypeText → Option Shape
answer_shape None = None
answer_shape (Some t) = shape_of t
