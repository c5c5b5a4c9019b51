use Rattle.ygg_value.proofs.Places.{row_read-write_same, row_read-write_other}
use Rattle.ygg_value.proofs.law.rows_by_places.Goals as goal

pub returns : goal.returns
returns c = record { written = row_read-write_same; others = row_read-write_other }
