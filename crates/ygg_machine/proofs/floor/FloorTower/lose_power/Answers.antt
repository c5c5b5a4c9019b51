use Rattle.ygg_machine.proofs.Fields.{lost_as}
use Rattle.ygg_machine.proofs.floor.FloorTower.lose_power.Goals as goal

pub returns : goal.returns
returns g c = record {
  lost = lost_as g.W.Lower.means g.W.Tower.rooted g.W.Tower.stands g.met.W.Tower.stacks c.self.inside.memory c.self.inside.below c.lose_power.new.self
      c.args.self.now c.self.view_is c.lose_power.ensures.lost;
}
