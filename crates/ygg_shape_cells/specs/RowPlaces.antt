-- Reading and writing a word of a row at a place that is a term: as a table of one word a row.
use Rattle.std.specs.Prelude.{ℕ, ◌≡◌, List, [], ◌∷◌, map}
use Rattle.ygg_value.specs.Shapes.{IsShape}
use Rattle.ygg_value.specs.Values.{row_read, row_write}
use Rattle.ygg_value.specs.declared.shape.Shape.TheVariants as shape
use Rattle.ygg_shape_words.specs.ygg_rules.declared.rule.RuleKind.{RuleKind}
use Rattle.ygg_shape_words.specs.ygg_bank.Makes.{Make, pure, and_make}
use Rattle.ygg_shape_words.specs.ygg_bank.Making.{id}
use Rattle.ygg_shape_words.specs.ygg_bank.Nodes.{HasWidth}
use Rattle.ygg_shape_words.specs.ygg_bank.Values.{Inputs, InputsFit, value_of}
use Rattle.ygg_shape_words.specs.ygg_bank.declared.node.Id.{Id}
use Rattle.ygg_shape_words.specs.ygg_bank.declared.node.Node.{Node}
use Rattle.ygg_shape_cells.specs.Making.{selected, stored}
use Rattle.ygg_shape_cells.specs.Terms.{IsRow, row_of}

-- one item alone
abbrev pub single : {X : Type 0} → X → List X
single a = a ∷ []

-- the table with one word of the row in each of its rows
abbrev pub singles : List Id → List (List Id)
singles = map single

-- the first word of a row; the first place where there is none
abbrev pub first : List Id → Id
first (a ∷ row) = a
first [] = id 0

-- the word at a place of a row
abbrev pub word_selected : List RuleKind → List Id → Id → Make Id
word_selected kinds row at = and_make (selected kinds (singles row) at) (λ answer. pure (first answer))

-- the row with a word at a place
abbrev pub word_stored : List RuleKind → List Id → Id → Id → Make (List Id)
word_stored kinds row at word = and_make (stored kinds (singles row) at (single word)) (λ answer. pure (map first answer))

-- a row of some shape, which keeps the limits
pub record RowStands (nodes : List Node) (row : List Id) : Type 0 where
  pub words : ℕ
  pub width : ℕ
  pub limits : IsShape (shape.Row words width)
  pub is : IsRow nodes words width row

-- such a row, and a word of its width
pub record CanWrite (nodes : List Node) (row : List Id) (word : Id) : Type 0 where
  pub stands : RowStands nodes row
  pub word_has : HasWidth nodes word stands.width

-- in every environment the answer is the word of the row at the place
abbrev pub IsWordRead : List Node → List Id → Id → Id → Type 0
IsWordRead nodes row at answer =
    (inputs : Inputs) → InputsFit inputs nodes
    → value_of inputs nodes answer.0 ≡ row_read (row_of (value_of inputs nodes) row) (value_of inputs nodes at.0).bits

-- in every environment the answer is the row with the word at the place
abbrev pub IsWordWritten : List Node → List Id → Id → Id → List Id → Type 0
IsWordWritten nodes row at word answer =
    (inputs : Inputs) → InputsFit inputs nodes
    → row_of (value_of inputs nodes) answer ≡ row_write (row_of (value_of inputs nodes) row) (value_of inputs nodes at.0).bits (value_of inputs nodes word.0)
