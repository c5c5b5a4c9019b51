use Rattle.ygg_run_image.proofs.Held.{holds_here}
use Rattle.ygg_run_image.proofs.Telling.{decoded_fits, read_told}
use Rattle.ygg_run_image.proofs.rows.read_block.Goals as goal

pub returns-in-Done-clause-told : goal.returns-in-Done-clause-told
returns-in-Done-clause-told g c done =
    read_told c.args.geometry _ _ (holds_here _ _ _ c.requires.held) c.args.at c.decode_row.new.row c.read.new.into c.requires.place c.in-Done.ensures.told
    c.decode_row.ensures

pub returns-in-Done-clause-row : goal.returns-in-Done-clause-row
returns-in-Done-clause-row g c = decoded_fits c.args.geometry c.read.new.into c.decode_row.new.row c.decode_row.ensures
