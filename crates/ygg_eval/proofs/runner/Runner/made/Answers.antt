use Rattle.ygg_eval.specs.BlockSteps.{stands}
use Rattle.ygg_eval.proofs.Places.{callable}
use Rattle.ygg_eval.proofs.runner.Runner.made.Goals as goal

pub call-requires-clause-operation : goal.call-requires-clause-operation
call-requires-clause-operation g c =
    let sends = c.requires in
    callable g.W.Lower.means c.args.self.now.typed.now.file c.args.self.now.number
    (stands c.args.lower.now c.args.power.now) c.args.name.now c.args.args.now sends.operation c.place_of-op.result sends.serves sends.found
    sends.fit c.place_of-op.ensures
