use Rattle.ygg_machine.proofs.Stepping.{ran_silently}
use Rattle.ygg_machine.proofs.floor.Floor.run_silently.Goals as goal

pub returns-clause-ran : goal.returns-clause-ran
returns-clause-ran g c = λ l b is.
    ran_silently g.W.Lower.means c.args.typed.now.file c.args.part c.args.number (record { machine = c.args.self.now; power = c.args.power.now })
    (record { machine = c.run.new.self; power = c.run.new.power }) c.run.result _ c.silent_result_of.ensures c.new-args.result c.new-args.ensures l b
    (c.run.ensures.ran l b is)
