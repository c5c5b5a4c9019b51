use Rattle.ygg_run_image.specs.ygg_eval.Lower.{ending_of}
use Rattle.ygg_run_image.specs.ygg_machine.Viewed.{floor_seen}
use Rattle.ygg_run_image.proofs.Ended.{ended}
use Rattle.ygg_run_image.proofs.formatting.FormattingErrand.run.Goals as goal

pub returns : goal.returns
returns g c =
    ended g.W.Viewed.seen.means c.args.typed.now.file ((floor_seen g.W.Viewed.seen).look c.args.tower.now)
    ((floor_seen g.W.Viewed.seen).look c.format.new.tower) _ _ c.requires.height c.steady-power.ensures (ending_of c.format.result)
    c.end_of-self.result c.end_of-self.ensures c.format.ensures.ends
