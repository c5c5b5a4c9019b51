-- What is asked of a disk over terms, and what a call wants of its terms.
use Rattle.std.specs.Prelude.{◌≤◌, List, [], ◌∷◌, length, Option, Some, None}
use Rattle.ygg_value.specs.declared.shape.Shape.TheVariants as shape
use Rattle.ygg_syntax.specs.declared.tree.DiskText.{DiskText}
use Rattle.ygg_sym_runs.specs.ygg_bank.Nodes.{Stands}
use Rattle.ygg_sym_runs.specs.ygg_bank.declared.node.Id.{Id}
use Rattle.ygg_sym_runs.specs.ygg_bank.declared.node.Node.{Node}
use Rattle.ygg_sym_runs.specs.ygg_shape_cells.Terms.{IsRow, IsShaped}
use Rattle.ygg_sym_runs.specs.ygg_shape_cells.declared.terms.SymValue.{SymValue}
use Rattle.ygg_sym_runs.specs.Putting.{row_in}
use Rattle.ygg_sym_runs.specs.Disks.{SymCall, Read, Write, Flush}
use Rattle.ygg_sym_machine.specs.declared.asking.Ask.{Ask}
use Rattle.ygg_sym_machine.specs.declared.asking.Ask.TheVariants as ask

-- the row of the second argument
abbrev pub second_row : List SymValue → List Id
second_row [] = []
second_row (at ∷ []) = []
second_row (at ∷ row ∷ more) = row_in row

-- the call that is asked, with these arguments
abbrev pub asked_call : Ask → List SymValue → Option SymCall
asked_call ask.Nothing args = None
asked_call (ask.Read at) args = Some (Read at)
asked_call (ask.Write at) args = Some (Write at (second_row args))
asked_call ask.Flush args = Some Flush

-- a write has a row beside the place
abbrev pub HasRow : Ask → List SymValue → Type 0
HasRow (ask.Write at) args = 2 ≤ length args
HasRow _ args = Unit {0}

-- a table of the disk's size, whose terms stand among the nodes
abbrev pub IsDiskTable : DiskText → List Node → SymValue → Type 0
IsDiskTable d nodes = IsShaped nodes (shape.Table d.rows.value d.words.value d.width.value)

-- a row of the disk's size
abbrev pub IsDiskRow : DiskText → List Node → List Id → Type 0
IsDiskRow d nodes = IsRow nodes d.words.value d.width.value

-- the place and the row of a call stand among the nodes, the row being of the disk's size
abbrev pub CallStands : DiskText → List Node → Option SymCall → Type 0
CallStands d nodes None = Unit {0}
CallStands d nodes (Some (Read at)) = Stands nodes at
CallStands d nodes (Some (Write at row)) = Stands nodes at × IsDiskRow d nodes row
CallStands d nodes (Some Flush) = Unit {0}
