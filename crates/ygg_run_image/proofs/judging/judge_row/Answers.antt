use Rattle.std.proofs.Common.{length}
use Rattle.ygg_run_image.proofs.Attached.{block_seen}
use Rattle.ygg_run_image.proofs.judging.judge_row.Goals as goal

pub read-requires : goal.read-requires
read-requires g c =
    block_seen c.args.geometry (g.D.Device.attached c.args.device.now) c.args.place (length c.args.block.now) c.requires.limits c.requires.seen
    c.requires.within c.requires.block
