use Rattle.ygg_machine.specs.FloorStacks.{floor_stacks}
use Rattle.ygg_machine.proofs.Calling.{call_ends, call_stands}
use Rattle.ygg_machine.proofs.floor.Floor.operate.Goals as goal

pub returns-clause-ends : goal.returns-clause-ends
returns-clause-ends g c = λ name o is.
    call_ends g.W.Lower.means g.W.Tower.rooted g.W.Tower.stands g.met.W.Lower.keeps g.met.W.Tower.stacks c.args.typed.now.file c.args.op c.args.args.now _
    (record { machine = c.args.self.now; power = c.args.power.now }) (record { machine = c.call.new.self; power = c.call.new.power })
    ((floor_stacks g.W.Lower.means g.W.Tower.rooted g.W.Tower.stands g.met.W.Lower.keeps g.met.W.Tower.stacks).stands c.args.typed.now.file c.args.self.now
    c.requires.serves.fits) c.call.ensures.called name o is

pub returns-clause-stands : goal.returns-clause-stands
returns-clause-stands g c =
    call_stands g.W.Lower.means g.W.Tower.rooted g.W.Tower.stands g.met.W.Lower.keeps g.met.W.Tower.stacks c.args.typed.now.file c.args.op c.args.args.now _
    (record { machine = c.args.self.now; power = c.args.power.now }) (record { machine = c.call.new.self; power = c.call.new.power })
    ((floor_stacks g.W.Lower.means g.W.Tower.rooted g.W.Tower.stands g.met.W.Lower.keeps g.met.W.Tower.stacks).stands c.args.typed.now.file c.args.self.now
    c.requires.serves.fits) c.call.ensures.called
