use Rattle.ygg_machine.proofs.Running.{floor_ran, floor_numbered}
use Rattle.ygg_machine.proofs.floor.Floor.run.Goals as goal

pub invariant_of-self : goal.invariant_of-self
invariant_of-self g c =
    floor_numbered g.W.Lower.means c.args.typed.now.file c.args.part c.args.number c.args.args.now c.requires.kind c.self.inside.place c.self.inside.memory
    c.self.inside.below c.args.self.now c.self.view_is c.self.invariant c.args.power.now c.run_body.new.power c.run_body.result c.run_body.new.state
    c.run_body.new.lower c.requires.block c.run_body.ensures.ends g.met.W.Lower.keeps

pub returns-clause-ran : goal.returns-clause-ran
returns-clause-ran g c =
    floor_ran g.W.Lower.means c.args.typed.now.file c.args.part c.args.number c.args.args.now c.requires.kind c.self.inside.place c.self.inside.memory
    c.self.inside.below c.args.self.now c.self.view_is c.self.invariant c.args.power.now c.run_body.new.power c.run_body.result c.run_body.new.state
    c.run_body.new.lower c.requires.block c.run_body.ensures.ends
