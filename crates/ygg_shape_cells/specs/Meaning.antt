-- What answers are worth, in every environment.
use Rattle.std.specs.Prelude.{ℕ, ◌≡◌, ◌==◌, if◌then◌else◌, ◌⊎◌, Some, List, [], ◌∷◌, ◌++◌, slice_get}
use Rattle.ygg_value.specs.Number.{Number}
use Rattle.ygg_value.specs.Words.{word}
use Rattle.ygg_value.specs.Values.{table_read, table_write}
use Rattle.ygg_shape_words.specs.ygg_bank.Values.{Inputs, InputsFit, value_of}
use Rattle.ygg_shape_words.specs.ygg_bank.declared.node.Id.{Id}
use Rattle.ygg_shape_words.specs.ygg_bank.declared.node.Node.{Node}
use Rattle.ygg_shape_words.specs.ygg_bank.declared.node.Node.TheVariants.{Const}
use Rattle.ygg_shape_cells.specs.Terms.{row_of, table_of, worth}
use Rattle.ygg_shape_cells.specs.declared.terms.SymValue.{SymValue}

-- in every environment the answer is the row of the table at the place
abbrev pub IsRead : List Node → List (List Id) → Id → List Id → Type 0
IsRead nodes table at answer =
    (inputs : Inputs) → InputsFit inputs nodes
    → row_of (value_of inputs nodes) answer ≡ table_read (table_of (value_of inputs nodes) table) (value_of inputs nodes at.0).bits

-- in every environment the answer is the table with the row at the place
abbrev pub IsWritten : List Node → List (List Id) → Id → List Id → List (List Id) → Type 0
IsWritten nodes table at row answer =
    (inputs : Inputs) → InputsFit inputs nodes
    → table_of (value_of inputs nodes) answer ≡ table_write (table_of (value_of inputs nodes) table) (value_of inputs nodes at.0).bits
    (row_of (value_of inputs nodes) row)

-- in every environment the answer is the first value where the test is 1, and else the second
abbrev pub IsMerged : List Node → Id → SymValue → SymValue → SymValue → Type 0
IsMerged nodes test one two answer =
    (inputs : Inputs) → InputsFit inputs nodes
    → worth (value_of inputs nodes) answer ≡ (if (value_of inputs nodes test.0).bits == 1 then worth (value_of inputs nodes) one else worth
    (value_of inputs nodes) two)

-- the node at the place is a constant
abbrev pub IsConstant : List Node → Id → Type 0
IsConstant nodes at = (k : Number) × (slice_get nodes at.0 ≡ Some (Const k))

-- no node came, or just one that is the constant 0 of some width
abbrev pub AddsAtMostZero : List Node → List Node → Type 0
AddsAtMostZero old new = (new ≡ old) ⊎ ((width : ℕ) × (new ≡ old ++ Const (word width 0) ∷ []))
