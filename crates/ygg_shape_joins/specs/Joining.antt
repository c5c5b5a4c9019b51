-- What merging makes in a bank, under a book of these kinds, where picks of one word under two tests are one pick under either test.
use Rattle.std.specs.Prelude.{◌==◌, if◌then◌else◌, Option, Some, List, slice_get}
use Rattle.ygg_value.specs.declared.operation.Op.TheVariants.{Or}
use Rattle.ygg_shape_words.specs.ygg_rules.declared.rule.RuleKind.{RuleKind}
use Rattle.ygg_shape_words.specs.ygg_bank.Makes.{Make, pure, and_make}
use Rattle.ygg_shape_words.specs.ygg_bank.Making.{made}
use Rattle.ygg_shape_words.specs.ygg_bank.declared.node.Id.{Id}
use Rattle.ygg_shape_words.specs.ygg_bank.declared.node.Node.{Node}
use Rattle.ygg_shape_words.specs.ygg_bank.declared.node.Node.TheVariants.{Bin, Pick}
use Rattle.ygg_shape_words.specs.Picking.{picked}
use Rattle.ygg_shape_cells.specs.Lists.{each_two}
use Rattle.ygg_shape_cells.specs.declared.terms.SymValue.{SymValue}
use Rattle.ygg_shape_cells.specs.declared.terms.SymValue.TheVariants.{Word, Row, Table}

-- a pick of one word that stands where either test is 1
abbrev pub picked_either : List RuleKind → Id → Id → Id → Id → Make Id
picked_either kinds t u a z = and_make (made kinds (Bin Or t u)) (λ either. picked kinds either a z)

-- the word where the test is 1, and else another, which is this pick: a pick of the word too, or of another word
abbrev pub joined_pick : List RuleKind → Id → Id → Id → Id → Id → Id → Make Id
joined_pick kinds t a b u x z = if x.0 == a.0 then picked_either kinds t u a z else picked kinds t a b

-- the word where the test is 1, and else another, at whose place this node stands
abbrev pub joined_as : List RuleKind → Id → Id → Id → Option Node → Make Id
joined_as kinds t a b (Some (Pick u x z)) = joined_pick kinds t a b u x z
joined_as kinds t a b n = picked kinds t a b

-- the first word where the test is 1, and else the second
abbrev pub joined_word : List RuleKind → Id → Id → Id → Make Id
joined_word kinds t a b nodes = joined_as kinds t a b (slice_get nodes b.0) nodes

-- one row where the test is 1, and else the other, word by word
abbrev pub joined_row : List RuleKind → Id → List Id → List Id → Make (List Id)
joined_row kinds test = each_two (joined_word kinds test)

-- one table where the test is 1, and else the other, row by row
abbrev pub joined_rows : List RuleKind → Id → List (List Id) → List (List Id) → Make (List (List Id))
joined_rows kinds test = each_two (joined_row kinds test)

-- one value where the test is 1, and else the other; of unlike values, the first
abbrev pub joined : List RuleKind → Id → SymValue → SymValue → Make SymValue
joined kinds test (Word one) (Word two) = and_make (joined_word kinds test one two) (λ a. pure (Word a))
joined kinds test (Row one) (Row two) = and_make (joined_row kinds test one two) (λ row. pure (Row row))
joined kinds test (Table one) (Table two) = and_make (joined_rows kinds test one two) (λ table. pure (Table table))
joined kinds test one two = pure one

-- the first values where the test is 1, and else the others, one by one
abbrev pub joined_all : List RuleKind → Id → List SymValue → List SymValue → Make (List SymValue)
joined_all kinds test = each_two (joined kinds test)
