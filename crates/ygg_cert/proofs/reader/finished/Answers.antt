use Rattle.std.proofs.Common.{◌++◌}
use Rattle.ygg_cert.proofs.reader.finished.Goals as goal

pub returns : goal.returns
returns g c before was = c.finish.ensures.judged _ (before ++ c.args.text.now) (c.feed-so_far.ensures.fed before was)
