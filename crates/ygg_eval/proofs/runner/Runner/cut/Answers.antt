use Rattle.ygg_eval.specs.BlockSteps.{stands}
use Rattle.ygg_eval.proofs.Places.{callable}
use Rattle.ygg_eval.proofs.runner.Runner.cut.Goals as goal

pub fall-requires-clause-operation : goal.fall-requires-clause-operation
fall-requires-clause-operation g c =
    let sends = c.requires.sends in
    callable g.W.Lower.means c.args.self.now.typed.now.file c.args.self.now.number
    (stands c.args.lower.now c.args.power.now) c.args.name.now c.args.args.now sends.operation c.place_of-op.result sends.serves sends.found
    sends.fit c.place_of-op.ensures
