use Rattle.ygg_run.proofs.Staging.{staged_loses, staged_stands}
use Rattle.ygg_run.proofs.staged.StagedScene.lose.Goals as goal

pub returns-clause-lost : goal.returns-clause-lost
returns-clause-lost g c = λ f h.
    staged_loses g.W.Viewed.seen g.met.W.Playable.playable f c.self.inside.tower c.args.self.now c.lose.new.tower c.self.view_is c.lose.ensures.lost h

pub returns-clause-stands : goal.returns-clause-stands
returns-clause-stands g c = λ f h.
    staged_stands g.W.Viewed.seen g.met.W.Playable.playable f c.self.inside.tower c.args.self.now c.lose.new.tower c.self.view_is c.lose.ensures.lost h
