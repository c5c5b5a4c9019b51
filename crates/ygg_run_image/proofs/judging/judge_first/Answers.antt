use Rattle.ygg_run_image.proofs.Whole.{whole_by_header}
use Rattle.ygg_run_image.proofs.judging.judge_first.Goals as goal

pub returns-in-None-clause-whole : goal.returns-in-None-clause-whole
returns-in-None-clause-whole g c = whole_by_header c.args.geometry c.read_first.new.block c.args.bytes c.read_first.ensures.block c.in-None.ensures
