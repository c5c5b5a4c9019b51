use Rattle.ygg_machine.proofs.Seeing.{loses_seen}
use Rattle.ygg_machine.proofs.viewed.lose.Goals as goal

pub returns : goal.returns
returns g c = record {
  lost = loses_seen g.T.Lower.means g.T.Tower.rooted g.T.Tower.stands g.T.Viewed.seen g.met.T.Viewed.sees
      c.args.tower.now c.lose_power.new.self c.lose_power.ensures.lost;
}
