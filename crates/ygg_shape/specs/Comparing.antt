-- What comparing values and lists of values makes in a bank, under a book of these kinds, and what it is worth.
use Rattle.std.specs.Prelude.{List, ◌∷◌, ◌≡◌, ◌&&◌, Bool, true, false, [], map}
use Rattle.ygg_value.specs.Values.{same_value}
use Rattle.ygg_value.specs.Words.{word, bit_of}
use Rattle.ygg_value.specs.declared.operation.Op.TheVariants.{And}
use Rattle.ygg_value.specs.declared.row.Value.{Value}
use Rattle.ygg_shape_cells.specs.ygg_rules.declared.rule.RuleKind.{RuleKind}
use Rattle.ygg_shape_cells.specs.ygg_bank.Makes.{Make, and_make}
use Rattle.ygg_shape_cells.specs.ygg_bank.Making.{made}
use Rattle.ygg_shape_cells.specs.ygg_bank.Nodes.{HasWidth}
use Rattle.ygg_shape_cells.specs.ygg_bank.Values.{Inputs, InputsFit, value_of}
use Rattle.ygg_shape_cells.specs.ygg_bank.declared.node.Id.{Id}
use Rattle.ygg_shape_cells.specs.ygg_bank.declared.node.Node.{Node}
use Rattle.ygg_shape_cells.specs.ygg_bank.declared.node.Node.TheVariants.{Const, Bin}
use Rattle.ygg_shape_sums.specs.Equates.{equated_words}
use Rattle.ygg_shape_cells.specs.Lists.{fold_two}
use Rattle.ygg_shape_cells.specs.Terms.{worth}
use Rattle.ygg_shape_cells.specs.declared.terms.SymValue.{SymValue}
use Rattle.ygg_shape_cells.specs.declared.terms.SymValue.TheVariants.{Word, Row, Table}
use Rattle.ygg_shape.specs.Equates.{equated_rows}

-- whether two rows are equal, joined to what is known so far
abbrev pub compared_row : List RuleKind → Id → List Id → List Id → Make Id
compared_row kinds so_far one two = and_make (equated_rows kinds one two) (λ same. made kinds (Bin And so_far same))

-- whether two tables are equal, joined to what is known so far, row by row
abbrev pub compared_rows : List RuleKind → Id → List (List Id) → List (List Id) → Make Id
compared_rows kinds = fold_two (compared_row kinds)

-- whether two values are equal; unlike values aren't
abbrev pub compared : List RuleKind → SymValue → SymValue → Make Id
compared kinds (Word one) (Word two) = equated_words kinds one two
compared kinds (Row one) (Row two) = and_make (made kinds (Const (word 1 1))) (λ so_far. compared_row kinds so_far one two)
compared kinds (Table one) (Table two) = and_make (made kinds (Const (word 1 1))) (λ so_far. compared_rows kinds so_far one two)
compared kinds one two = made kinds (Const (word 1 0))

-- whether all of these digits are 1, joined from the last one on
abbrev pub conjunction : List RuleKind → List Id → Make Id
conjunction kinds [] = made kinds (Const (word 1 1))
conjunction kinds (a ∷ more) = and_make (conjunction kinds more) (λ rest. made kinds (Bin And a rest))

-- whether two lists of values are equal, value by value
abbrev pub all_compared : List RuleKind → List SymValue → List SymValue → Make Id
all_compared kinds (x ∷ xs) (y ∷ ys) =
    and_make (compared kinds x y) (λ a. and_make (all_compared kinds xs ys) (λ rest. made kinds (Bin And a rest)))
all_compared kinds _ _ = made kinds (Const (word 1 1))

-- in every environment the answer is 1 where the two values are equal, and else 0
abbrev pub IsCompared : List Node → SymValue → SymValue → Id → Type 0
IsCompared nodes one two answer =
    (inputs : Inputs) → InputsFit inputs nodes
    → value_of inputs nodes answer.0 ≡ word 1 (bit_of (same_value (worth (value_of inputs nodes) one) (worth (value_of inputs nodes) two)))

-- whether two lists have equal values in the same order
abbrev pub same_values : List Value → List Value → Bool
same_values [] [] = true
same_values (x ∷ xs) (y ∷ ys) = same_value x y && same_values xs ys
same_values _ _ = false

-- in every environment the answer is 1 where all values are equal, one by one, and else 0
abbrev pub AreCompared : List Node → List SymValue → List SymValue → Id → Type 0
AreCompared nodes ones twos answer =
    (inputs : Inputs) → InputsFit inputs nodes
    → value_of inputs nodes answer.0
    ≡ word 1 (bit_of (same_values (map (worth (value_of inputs nodes)) ones) (map (worth (value_of inputs nodes)) twos)))

-- a term of one digit stands among the nodes
abbrev pub IsDigit : List Node → Id → Type 0
IsDigit nodes a = HasWidth nodes a 1
