use Rattle.ygg_run_image.proofs.Images.{headers_hold_no_rows, written_rows_are_held, zeros_hold_zeros}
use Rattle.ygg_run_image.proofs.law.rows_are_written.Goals as goal

pub returns-clause-header : goal.returns-clause-header
returns-clause-header c = headers_hold_no_rows

pub returns-clause-row : goal.returns-clause-row
returns-clause-row c = written_rows_are_held

pub returns-clause-zeros : goal.returns-clause-zeros
returns-clause-zeros c = zeros_hold_zeros
