-- What inputs of a shape make in a bank, under a book of these kinds, and what they are worth.
use Rattle.std.specs.Prelude.{ℕ, zero, suc, ◌≡◌, ◌+◌, ◌*◌, List, [], ◌∷◌, replicate}
use Rattle.ygg_value.specs.Words.{word}
use Rattle.ygg_value.specs.declared.row.Value.{Value}
use Rattle.ygg_value.specs.declared.row.Value.TheVariants as value
use Rattle.ygg_value.specs.declared.shape.Shape.{Shape}
use Rattle.ygg_value.specs.declared.shape.Shape.TheVariants as shape
use Rattle.ygg_shape_words.specs.ygg_rules.declared.rule.RuleKind.{RuleKind}
use Rattle.ygg_shape_words.specs.ygg_bank.Makes.{Make, pure, and_make}
use Rattle.ygg_shape_words.specs.ygg_bank.Making.{made}
use Rattle.ygg_shape_words.specs.ygg_bank.Values.{Inputs, InputsFit, value_of}
use Rattle.ygg_shape_words.specs.ygg_bank.declared.node.Id.{Id}
use Rattle.ygg_shape_words.specs.ygg_bank.declared.node.Node.{Node}
use Rattle.ygg_shape_words.specs.ygg_bank.declared.node.Node.TheVariants.{Input}
use Rattle.ygg_shape_cells.specs.Lists.{each_from}
use Rattle.ygg_shape_cells.specs.Terms.{worth}
use Rattle.ygg_shape_cells.specs.declared.terms.SymValue.{SymValue}
use Rattle.ygg_shape_cells.specs.declared.terms.SymValue.TheVariants.{Word, Row, Table}

-- a row of n inputs of this width, numbered on from a number
abbrev pub fresh_row : List RuleKind → ℕ → ℕ → ℕ → Make (List Id)
fresh_row kinds number n w = each_from (λ i (x : ℕ). made kinds (Input (number + i) w)) 0 (replicate n 0)

-- m such rows, numbered on row by row
abbrev pub fresh_rows : List RuleKind → ℕ → ℕ → ℕ → ℕ → Make (List (List Id))
fresh_rows kinds number m n w = each_from (λ i (x : ℕ). fresh_row kinds (number + i * n) n w) 0 (replicate m 0)

-- a value of a shape whose words are inputs, numbered on from a number
abbrev pub fresh_made : List RuleKind → ℕ → Shape → Make SymValue
fresh_made kinds number (shape.Word w) = and_make (made kinds (Input number w)) (λ a. pure (Word a))
fresh_made kinds number (shape.Row n w) = and_make (fresh_row kinds number n w) (λ row. pure (Row row))
fresh_made kinds number (shape.Table m n w) = and_make (fresh_rows kinds number m n w) (λ rows. pure (Table rows))

-- how many words a value of the shape has
abbrev pub words_of : Shape → ℕ
words_of (shape.Word w) = 1
words_of (shape.Row n w) = n
words_of (shape.Table m n w) = m * n

-- the numbers that so many inputs have, numbered on from a number
abbrev pub numbers_from : Inputs → ℕ → ℕ → List ℕ
numbers_from inputs number zero = []
numbers_from inputs number (suc k) = inputs number ∷ numbers_from inputs (number + 1) k

-- so many rows of n of them
abbrev pub rows_from : Inputs → ℕ → ℕ → ℕ → List (List ℕ)
rows_from inputs number zero n = []
rows_from inputs number (suc k) n = numbers_from inputs number n ∷ rows_from inputs (number + n) k n

-- the value of a shape whose numbers the inputs have, numbered on from a number
abbrev pub given_value : Inputs → ℕ → Shape → Value
given_value inputs number (shape.Word w) = value.Word (word w (inputs number))
given_value inputs number (shape.Row n w) = value.Row (record { width = w; words = numbers_from inputs number n })
given_value inputs number (shape.Table m n w) = value.Table (record { width = w; words = n; rows = rows_from inputs number m n })

-- in every environment the answer is what the inputs from this number on are
abbrev pub IsGiven : List Node → ℕ → Shape → SymValue → Type 0
IsGiven nodes number s answer = (inputs : Inputs) → InputsFit inputs nodes → worth (value_of inputs nodes) answer ≡ given_value inputs number s
