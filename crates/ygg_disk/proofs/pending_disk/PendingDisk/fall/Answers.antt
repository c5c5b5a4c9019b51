use Rattle.std.proofs.Common.{rules}
use Rattle.ygg_disk.proofs.Marks.{loses_marked}
use Rattle.ygg_disk.proofs.pending_disk.PendingDisk.fall.Goals as goal

pub returns-clause-loses : goal.returns-clause-loses
returns-clause-loses c = loses_marked c.args.self.now _ (search rules)
