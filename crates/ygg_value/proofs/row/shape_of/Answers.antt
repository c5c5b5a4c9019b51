use Rattle.ygg_value.proofs.Rows.{length-first_chunks, table_from_flat}
use Rattle.ygg_value.proofs.row.shape_of.Goals as goal

pub returns-in-Table-clause-shape : goal.returns-in-Table-clause-shape
returns-in-Table-clause-shape c = rw (c.in-Table.is, ← c.table.view_is, length-first_chunks)

pub returns-in-Table-clause-value : goal.returns-in-Table-clause-value
returns-in-Table-clause-value c = rw (c.in-Table.is, ← c.table.view_is) (table_from_flat _ _ _ _ c.table.invariant)
