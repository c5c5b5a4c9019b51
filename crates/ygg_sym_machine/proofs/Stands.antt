-- What stands among the nodes of a disk, and stays there.
use Rattle.std.proofs.Common.{◌≡◌, Some, List, [], ◌∷◌, slice_get, subst}
use Rattle.ygg_base.specs.declared.geometry.DiskKind.{DiskKind}
use Rattle.ygg_base.specs.declared.geometry.DiskKind.TheVariants.{Sync, Async}
use Rattle.ygg_syntax.specs.declared.tree.DiskText.{DiskText}
use Rattle.ygg_sym_runs.specs.ygg_meaning.Stack.{tables_of_kind}
use Rattle.ygg_sym_runs.specs.ygg_bank.Nodes.{Extends}
use Rattle.ygg_sym_runs.specs.ygg_bank.declared.node.Id.{Id}
use Rattle.ygg_sym_runs.specs.ygg_bank.declared.node.Node.{Node}
use Rattle.ygg_sym_runs.specs.ygg_shape_cells_proofs_Wider.{row_wider, shaped_wider}
use Rattle.ygg_sym_runs.specs.ygg_shape_cells.declared.terms.SymValue.{SymValue}
use Rattle.ygg_sym_runs.specs.Lows.{LowShaped}
use Rattle.ygg_sym_machine.specs.Asking.{IsDiskRow, IsDiskTable}

-- the first table, among more nodes
pub view_stands : (d : DiskText) (kind : DiskKind) (old new : List Node) (tables : List SymValue) (x : SymValue) → Extends old new →
    LowShaped old (tables_of_kind kind d) tables → slice_get tables 0 ≡ Some x → IsDiskTable d new x
view_stands d Sync old new (y ∷ tables) x g p e = let f : y ≡ x = cc in subst (IsDiskTable d new) f (shaped_wider old new _ y g p.0)
view_stands d Async old new (y ∷ tables) x g p e = let f : y ≡ x = cc in subst (IsDiskTable d new) f (shaped_wider old new _ y g p.0)
view_stands d Sync old new [] x g p e = absurd p
view_stands d Async old new [] x g p e = absurd p

-- the second
pub stable_stands : (d : DiskText) (old new : List Node) (tables : List SymValue) (x : SymValue) → Extends old new →
    LowShaped old (tables_of_kind Async d) tables → slice_get tables 1 ≡ Some x → IsDiskTable d new x
stable_stands d old new (a ∷ y ∷ tables) x g p e =
    let f : y ≡ x = cc in let q = p.1 in subst (IsDiskTable d new) f (shaped_wider old new _ y g q.0)
stable_stands d old new [] x g p e = absurd p
stable_stands d old new (a ∷ []) x g p e = absurd (p.1)

-- a row among more nodes
pub row_stands : (d : DiskText) (old new : List Node) (row : List Id) → Extends old new → IsDiskRow d old row → IsDiskRow d new row
row_stands d old new row g p = row_wider old new d.words.value d.width.value row g p
