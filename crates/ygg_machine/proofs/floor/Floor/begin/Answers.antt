use Rattle.ygg_machine.proofs.Stepping.{cleared_runs, begun}
use Rattle.ygg_machine.proofs.floor.Floor.begin.Goals as goal

pub run_silently-requires-clause-block : goal.run_silently-requires-clause-block
run_silently-requires-clause-block g c =
    cleared_runs g.W.Lower.means c.args.typed.now.file c.args.typed.now.typed c.args.typed.now.derivable c.args.self.now c.clear.new.self c.args.part
    c.in_ok-clear.ensures.cleared c.requires.layer c.requires.part

pub returns-clause-began : goal.returns-clause-began
returns-clause-began g c =
    begun g.W.Lower.means c.args.typed.now.file c.args.part c.args.self.now c.clear.new.self c.args.power.now _
    (record { machine = c.run_silently.new.self; power = c.run_silently.new.power }) c.in_ok-clear.ensures.cleared c.run_silently.ensures.ran
