-- What lists of values and zeros make in a bank, under a book of these kinds, and what they are worth.
use Rattle.std.specs.Prelude.{◌≡◌, ◌==◌, if◌then◌else◌, List, map, replicate}
use Rattle.ygg_value.specs.Shapes.{zero_of}
use Rattle.ygg_value.specs.Words.{word}
use Rattle.ygg_value.specs.declared.shape.Shape.{Shape}
use Rattle.ygg_value.specs.declared.shape.Shape.TheVariants as shape
use Rattle.ygg_shape_words.specs.ygg_rules.declared.rule.RuleKind.{RuleKind}
use Rattle.ygg_shape_words.specs.ygg_bank.Makes.{Make, pure, and_make}
use Rattle.ygg_shape_words.specs.ygg_bank.Making.{made}
use Rattle.ygg_shape_words.specs.ygg_bank.Values.{Inputs, InputsFit, value_of}
use Rattle.ygg_shape_words.specs.ygg_bank.declared.node.Id.{Id}
use Rattle.ygg_shape_words.specs.ygg_bank.declared.node.Node.{Node}
use Rattle.ygg_shape_words.specs.ygg_bank.declared.node.Node.TheVariants.{Const}
use Rattle.ygg_shape_cells.specs.Lists.{each_two}
use Rattle.ygg_shape_cells.specs.Making.{merged, zeros}
use Rattle.ygg_shape_cells.specs.Terms.{AreShaped, worth}
use Rattle.ygg_shape_cells.specs.declared.terms.SymValue.{SymValue}
use Rattle.ygg_shape_cells.specs.declared.terms.SymValue.TheVariants.{Word, Row, Table}

-- the first values where the test is 1, and else the others, one by one
abbrev pub merged_all : List RuleKind → Id → List SymValue → List SymValue → Make (List SymValue)
merged_all kinds test = each_two (merged kinds test)

-- the value of a shape whose numbers are all 0
abbrev pub zero_made : List RuleKind → Shape → Make SymValue
zero_made kinds (shape.Word w) = and_make (made kinds (Const (word w 0))) (λ a. pure (Word a))
zero_made kinds (shape.Row n w) = and_make (zeros kinds n w) (λ row. pure (Row row))
zero_made kinds (shape.Table m n w) = and_make (zeros kinds n w) (λ row. pure (Table (replicate m row)))

-- two lists of values of the same shapes, which keep the limits
pub record AllAlike (nodes : List Node) (ones twos : List SymValue) : Type 0 where
  pub shapes : List Shape
  pub ones_are : AreShaped nodes shapes ones
  pub twos_are : AreShaped nodes shapes twos

-- in every environment the answers are the first values where the test is 1, and else the others
abbrev pub AreMerged : List Node → Id → List SymValue → List SymValue → List SymValue → Type 0
AreMerged nodes test ones twos answers =
    (inputs : Inputs) → InputsFit inputs nodes
    → map (worth (value_of inputs nodes)) answers
    ≡ (if (value_of inputs nodes test.0).bits == 1 then map (worth (value_of inputs nodes)) ones else map (worth (value_of inputs nodes)) twos)

-- in every environment all numbers of the answer are 0
abbrev pub IsZero : List Node → Shape → SymValue → Type 0
IsZero nodes s answer = (inputs : Inputs) → InputsFit inputs nodes → worth (value_of inputs nodes) answer ≡ zero_of s
