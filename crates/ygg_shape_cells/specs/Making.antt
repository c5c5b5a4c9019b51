-- What merging, selecting and storing make in a bank, under a book of these kinds.
use Rattle.std.specs.Prelude.{ℕ, zero, suc, true, ◌^◌, nat_lt, if◌then◌else◌, Option, Some, None, List, ◌∷◌, replicate, slice_get, slice_set}
use Rattle.ygg_value.specs.Number.{Number}
use Rattle.ygg_value.specs.Words.{word}
use Rattle.ygg_shape_words.specs.ygg_rules.declared.rule.RuleKind.{RuleKind}
use Rattle.ygg_shape_words.specs.ygg_bank.Makes.{Make, pure, and_make}
use Rattle.ygg_shape_words.specs.ygg_bank.Making.{known_in, made}
use Rattle.ygg_shape_words.specs.ygg_bank.Nodes.{width_at, widths_of}
use Rattle.ygg_shape_words.specs.ygg_bank.declared.node.Id.{Id}
use Rattle.ygg_shape_words.specs.ygg_bank.declared.node.Node.{Node}
use Rattle.ygg_shape_words.specs.ygg_bank.declared.node.Node.TheVariants.{Const, Pick}
use Rattle.ygg_shape_words.specs.Picking.{picked}
use Rattle.ygg_shape_words.specs.Same.{same_words}
use Rattle.ygg_shape_cells.specs.Pruning.{given_row}
use Rattle.ygg_shape_cells.specs.Lists.{each_two, each_from, fold_from}
use Rattle.ygg_shape_cells.specs.Terms.{words_in}
use Rattle.ygg_shape_cells.specs.declared.selecting.TheConstants.{PLACE_DEPTH}
use Rattle.ygg_shape_cells.specs.declared.terms.SymValue.{SymValue}
use Rattle.ygg_shape_cells.specs.declared.terms.SymValue.TheVariants.{Word, Row, Table}

-- one row where the test is 1, and else the other, word by word
abbrev pub merged_row : List RuleKind → Id → List Id → List Id → Make (List Id)
merged_row kinds test = each_two (picked kinds test)

-- one table where the test is 1, and else the other, row by row
abbrev pub merged_rows : List RuleKind → Id → List (List Id) → List (List Id) → Make (List (List Id))
merged_rows kinds test = each_two (merged_row kinds test)

-- one value where the test is 1, and else the other; of unlike values, the first
abbrev pub merged : List RuleKind → Id → SymValue → SymValue → Make SymValue
merged kinds test (Word one) (Word two) = and_make (picked kinds test one two) (λ a. pure (Word a))
merged kinds test (Row one) (Row two) = and_make (merged_row kinds test one two) (λ row. pure (Row row))
merged kinds test (Table one) (Table two) = and_make (merged_rows kinds test one two) (λ table. pure (Table table))
merged kinds test one two = pure one

-- one row where a test is 1, its words as they are where another test is 1 that follows from the first, and else the other row
abbrev pub written_row : List RuleKind → Id → Id → List Id → List Id → Make (List Id)
written_row kinds test met new old = and_make (given_row kinds met true new) (λ pruned. merged_row kinds test pruned old)

-- one row where the place, which is so wide, has this number, and else the other
abbrev pub split_at : List RuleKind → Id → ℕ → ℕ → List Id → List Id → Make (List Id)
split_at kinds at width number one two =
    and_make (made kinds (Const (word width number))) (λ k. and_make (same_words kinds at k) (λ test. written_row kinds test test one two))

-- the same; a number with more digits than the place is never the place
abbrev pub where_at : List RuleKind → Id → ℕ → ℕ → List Id → List Id → Make (List Id)
where_at kinds at width number one two = if nat_lt number (2 ^ width) then split_at kinds at width number one two else pure two

-- a row of so many zeros of this width
abbrev pub zeros : List RuleKind → ℕ → ℕ → Make (List Id)
zeros kinds words width = and_make (made kinds (Const (word width 0))) (λ zero. pure (replicate words zero))

-- of the rows, numbered on from a number, the one at the place; where the place is none of the numbers, the row before them
abbrev pub chosen : List RuleKind → Id → ℕ → List Id → ℕ → List (List Id) → Make (List Id)
chosen kinds at width = fold_from (λ so_far number row. where_at kinds at width number row so_far)

-- the width of the first row's first word among the nodes; a table without rows counts as one digit wide
abbrev pub width_in : List Node → List (List Id) → ℕ
width_in nodes ((a ∷ row) ∷ rows) = width_at (widths_of nodes) a
width_in nodes _ = 1

-- the row that is there, or else zeros
abbrev pub row_or_zeros : List RuleKind → ℕ → ℕ → Option (List Id) → Make (List Id)
row_or_zeros kinds words width (Some row) = pure row
row_or_zeros kinds words width None = zeros kinds words width

-- the row at a place: of a known place the row that is there or zeros, and of an unknown one a chain of picks over all rows, which begins with zeros
abbrev pub selected_at : List RuleKind → List (List Id) → ℕ → Id → ℕ → Option Number → Make (List Id)
selected_at kinds table width at digits (Some k) = row_or_zeros kinds (words_in table) width (slice_get table k.bits)
selected_at kinds table width at digits None = and_make (zeros kinds (words_in table) width) (λ past. chosen kinds at digits past 0 table)

-- the row of a table at a place, whose number is compared with that of each row where it isn't known
abbrev pub selected_by_number : List RuleKind → List (List Id) → Id → Make (List Id)
selected_by_number kinds table at nodes =
    selected_at kinds table (width_in nodes table) at (width_at (widths_of nodes) at) (known_in (slice_get nodes at.0)) nodes

-- the row of a table at a place, where this node stands: of a pick of two places a pick of the rows there, which the step reads
abbrev pub selected_of : List RuleKind → List (List Id) → (Id → Make (List Id)) → Id → Option Node → Make (List Id)
selected_of kinds table next at (Some (Pick t x y)) = and_make (next x) (λ one. and_make (next y) (λ two. merged_row kinds t one two))
selected_of kinds table next at n = selected_by_number kinds table at

-- the row of a table at a place that may be so many picks of places one within another
unfoldable pub selected_within : List RuleKind → List (List Id) → ℕ → Id → Make (List Id)
selected_within kinds table zero at = selected_by_number kinds table at
selected_within kinds table (suc depth) at = λ nodes. selected_of kinds table (selected_within kinds table depth) at (slice_get nodes at.0) nodes

-- the row of a table at a place
abbrev pub selected : List RuleKind → List (List Id) → Id → Make (List Id)
selected kinds table at = selected_within kinds table PLACE_DEPTH at

-- the rows, numbered on from a number, and the new row in the stead of the one at the place
abbrev pub stored_from : List RuleKind → Id → ℕ → List Id → ℕ → List (List Id) → Make (List (List Id))
stored_from kinds at width new = each_from (λ number old. where_at kinds at width number new old)

-- the table with a row at a place: of a known place that row is put there, and of an unknown one each row is the new one where the place is its number
abbrev pub stored_at : List RuleKind → List (List Id) → List Id → Id → ℕ → Option Number → Make (List (List Id))
stored_at kinds table new at digits (Some k) = pure (slice_set table k.bits new)
stored_at kinds table new at digits None = stored_from kinds at digits new 0 table

-- the table with a row at a place
abbrev pub stored : List RuleKind → List (List Id) → Id → List Id → Make (List (List Id))
stored kinds table at new nodes = stored_at kinds table new at (width_at (widths_of nodes) at) (known_in (slice_get nodes at.0)) nodes
