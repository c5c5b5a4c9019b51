use Rattle.ygg_value.proofs.Places.{table_read-write_same, table_read-write_other}
use Rattle.ygg_value.proofs.law.tables_by_places.Goals as goal

pub returns : goal.returns
returns c = record { written = table_read-write_same; others = table_read-write_other }
