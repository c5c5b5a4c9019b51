use Rattle.std.proofs.Common.{suc, sym, subst}
use Rattle.ygg_eval.specs.Layers.{signatures_at}
use Rattle.ygg_eval.specs.Lower.{Ending, AfterWhole, Serves, Called}
use Rattle.ygg_machine.specs.Floors.{floor_meaning, place_of}
use Rattle.ygg_machine.proofs.Serving.{runs_implementation, called_floor, called_serves}
use Rattle.ygg_machine.proofs.floor.FloorLower.call.Goals as goal

pub run-requires-clause-block : goal.run-requires-clause-block
run-requires-clause-block g c =
    runs_implementation g.W.Lower.means c.args.typed.now.file c.args.typed.now.typed c.args.typed.now.derivable c.args.op c.args.args.now c.args.self.now
    c.requires.operation c.requires.serves.fits

pub returns-clause-called : goal.returns-clause-called
returns-clause-called g c =
    subst (λ (e : Ending). Called (floor_meaning g.W.Lower.means) c.args.typed.now.file
    (signatures_at c.args.typed.now.file (suc (place_of g.W.Lower.means c.args.self.now))) c.args.op c.args.args.now e
    (record { machine = c.args.self.now; power = c.args.power.now }) (record { machine = c.run.new.self; power = c.run.new.power })) (sym c.result_of.ensures)
    (called_floor g.W.Lower.means c.args.typed.now.file c.args.typed.now.typed c.args.typed.now.derivable c.args.op c.args.args.now c.args.self.now
    c.requires.operation c.args.power.now (record { machine = c.run.new.self; power = c.run.new.power }) _ c.run.ensures.ran)

pub returns-clause-serves : goal.returns-clause-serves
returns-clause-serves g c =
    subst (λ (e : Ending). AfterWhole e (Serves (floor_meaning g.W.Lower.means) c.args.typed.now.file (suc (place_of g.W.Lower.means c.args.self.now))
    (record { machine = c.run.new.self; power = c.run.new.power }))) (sym c.result_of.ensures)
    (called_serves g.W.Lower.means c.args.typed.now.file c.args.typed.now.typed c.args.typed.now.derivable c.args.op c.args.args.now c.args.self.now
    c.requires.operation c.args.power.now (record { machine = c.run.new.self; power = c.run.new.power }) _ c.run.ensures.ran c.run.ensures.serves)
