-- What a write that happens where a test is 1 makes in a bank, under a book of these kinds, and what it is worth.
use Rattle.std.specs.Prelude.{ℕ, ◌≡◌, ◌==◌, ◌^◌, nat_lt, if◌then◌else◌, Option, Some, None, List, slice_get, slice_set}
use Rattle.ygg_value.specs.Number.{Number}
use Rattle.ygg_value.specs.Values.{table_write}
use Rattle.ygg_value.specs.Words.{word}
use Rattle.ygg_value.specs.declared.operation.Op.TheVariants.{And}
use Rattle.ygg_shape_words.specs.ygg_rules.declared.rule.RuleKind.{RuleKind}
use Rattle.ygg_shape_words.specs.ygg_bank.Makes.{Make, pure, and_make}
use Rattle.ygg_shape_words.specs.ygg_bank.Making.{known_in, made}
use Rattle.ygg_shape_words.specs.ygg_bank.Nodes.{width_at, widths_of}
use Rattle.ygg_shape_words.specs.ygg_bank.Values.{Inputs, InputsFit, value_of}
use Rattle.ygg_shape_words.specs.ygg_bank.declared.node.Id.{Id}
use Rattle.ygg_shape_words.specs.ygg_bank.declared.node.Node.{Node}
use Rattle.ygg_shape_words.specs.ygg_bank.declared.node.Node.TheVariants.{Const, Bin}
use Rattle.ygg_shape_words.specs.Same.{same_words}
use Rattle.ygg_shape_cells.specs.Lists.{each_from}
use Rattle.ygg_shape_cells.specs.Making.{merged_row, written_row}
use Rattle.ygg_shape_cells.specs.Terms.{row_of, table_of}

-- one row where the test is 1 and the place, which is so wide, has this number, and else the other
abbrev pub guarded_split : List RuleKind → Id → Id → ℕ → ℕ → List Id → List Id → Make (List Id)
guarded_split kinds t at width number one two =
    and_make (made kinds (Const (word width number))) (λ k. and_make (same_words kinds at k)
    (λ there. and_make (made kinds (Bin And t there)) (λ both. written_row kinds both there one two)))

-- the same; a number with more digits than the place is never the place
abbrev pub guarded_at : List RuleKind → Id → Id → ℕ → ℕ → List Id → List Id → Make (List Id)
guarded_at kinds t at width number one two = if nat_lt number (2 ^ width) then guarded_split kinds t at width number one two else pure two

-- the rows, numbered on from a number, and where the test is 1 the new row in the stead of the one at the place
abbrev pub guarded_from : List RuleKind → Id → Id → ℕ → List Id → ℕ → List (List Id) → Make (List (List Id))
guarded_from kinds t at width new = each_from (λ number old. guarded_at kinds t at width number new old)

-- the table with a row at this place, where the test is 1 and a row is there
abbrev pub guarded_known : List RuleKind → Id → List (List Id) → List Id → ℕ → Option (List Id) → Make (List (List Id))
guarded_known kinds t table new place (Some old) = and_make (merged_row kinds t new old) (λ row. pure (slice_set table place row))
guarded_known kinds t table new place None = pure table

-- the table with a row at a place, known or not, where the test is 1
abbrev pub stored_where_at : List RuleKind → Id → List (List Id) → List Id → Id → ℕ → Option Number → Make (List (List Id))
stored_where_at kinds t table new at digits (Some k) = guarded_known kinds t table new k.bits (slice_get table k.bits)
stored_where_at kinds t table new at digits None = guarded_from kinds t at digits new 0 table

-- the table with a row at a place, where the test is 1
abbrev pub stored_where : List RuleKind → Id → List (List Id) → Id → List Id → Make (List (List Id))
stored_where kinds t table at new nodes = stored_where_at kinds t table new at (width_at (widths_of nodes) at) (known_in (slice_get nodes at.0)) nodes

-- in every environment the answer is the table, with the row at the place where the test is 1
abbrev pub IsWrittenWhere : List Node → Id → List (List Id) → Id → List Id → List (List Id) → Type 0
IsWrittenWhere nodes test table at row answer =
    (inputs : Inputs) → InputsFit inputs nodes
    → table_of (value_of inputs nodes) answer
    ≡ (if (value_of inputs nodes test.0).bits == 1 then table_write (table_of (value_of inputs nodes) table) (value_of inputs nodes at.0).bits
    (row_of (value_of inputs nodes) row)
    else table_of (value_of inputs nodes) table)
