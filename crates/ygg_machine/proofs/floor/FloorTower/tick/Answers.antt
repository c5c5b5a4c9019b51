use Rattle.ygg_machine.specs.FloorStacks.{floor_stacks}
use Rattle.ygg_machine.proofs.Stepping.{tick_runs_as}
use Rattle.ygg_machine.proofs.Fields.{place_as, below_as, tick_ends_as, tick_stands_as, tick_serves_as, under_as, tick_under_as, serves_under_as}
use Rattle.ygg_machine.proofs.floor.FloorTower.tick.Goals as goal

pub run_silently-requires-clause-block : goal.run_silently-requires-clause-block
run_silently-requires-clause-block g c =
    tick_runs_as g.W.Lower.means c.args.typed.now.file c.args.self.now c.args.layer c.args.number
    (place_as g.W.Lower.means c.self.inside.place c.args.layer c.self.inside.memory c.self.inside.below c.args.self.now c.self.view_is c.self.invariant
    c.if-layer-self.true) c.requires.serves.fits c.requires.tick

pub returns-then-layer-self-clause-ends : goal.returns-then-layer-self-clause-ends
returns-then-layer-self-clause-ends g c = λ inside.
    tick_ends_as g.W.Lower.means g.W.Tower.rooted g.W.Tower.stands g.met.W.Lower.keeps g.met.W.Tower.stacks c.args.typed.now.file
    c.args.layer c.args.number c.args.self.now
    (place_as g.W.Lower.means c.self.inside.place c.args.layer c.self.inside.memory c.self.inside.below c.args.self.now c.self.view_is c.self.invariant
    c.if-layer-self.true) c.args.power.now (record { machine = c.run_silently.new.self; power = c.run_silently.new.power }) _
    ((floor_stacks g.W.Lower.means g.W.Tower.rooted g.W.Tower.stands g.met.W.Lower.keeps g.met.W.Tower.stacks).stands c.args.typed.now.file
    c.args.self.now
    c.requires.serves.fits) c.run_silently.ensures.ran
    c.args.typed.now.typed c.args.typed.now.derivable

pub returns-then-layer-self-clause-serves : goal.returns-then-layer-self-clause-serves
returns-then-layer-self-clause-serves g c =
    tick_serves_as g.W.Lower.means g.W.Tower.rooted g.W.Tower.stands g.met.W.Lower.keeps g.met.W.Tower.stacks c.args.typed.now.file
    c.args.layer c.args.number c.args.self.now
    (place_as g.W.Lower.means c.self.inside.place c.args.layer c.self.inside.memory c.self.inside.below c.args.self.now c.self.view_is c.self.invariant
    c.if-layer-self.true) c.args.power.now (record { machine = c.run_silently.new.self; power = c.run_silently.new.power }) _
    ((floor_stacks g.W.Lower.means g.W.Tower.rooted g.W.Tower.stands g.met.W.Lower.keeps g.met.W.Tower.stacks).stands c.args.typed.now.file
    c.args.self.now
    c.requires.serves.fits) c.run_silently.ensures.ran
    c.requires.tick c.run_silently.ensures.serves

pub returns-then-layer-self-clause-stands : goal.returns-then-layer-self-clause-stands
returns-then-layer-self-clause-stands g c =
    tick_stands_as g.W.Lower.means g.W.Tower.rooted g.W.Tower.stands g.met.W.Lower.keeps g.met.W.Tower.stacks c.args.typed.now.file
    c.args.layer c.args.number c.args.self.now
    (place_as g.W.Lower.means c.self.inside.place c.args.layer c.self.inside.memory c.self.inside.below c.args.self.now c.self.view_is c.self.invariant
    c.if-layer-self.true) c.args.power.now (record { machine = c.run_silently.new.self; power = c.run_silently.new.power }) _
    ((floor_stacks g.W.Lower.means g.W.Tower.rooted g.W.Tower.stands g.met.W.Lower.keeps g.met.W.Tower.stacks).stands c.args.typed.now.file
    c.args.self.now
    c.requires.serves.fits) c.run_silently.ensures.ran
    c.requires.tick

pub returns-else-layer-self-clause-ends : goal.returns-else-layer-self-clause-ends
returns-else-layer-self-clause-ends g c = λ inside name is.
    tick_under_as g.W.Lower.means g.W.Tower.rooted g.W.Tower.stands g.met.W.Lower.keeps g.met.W.Tower.stacks c.args.typed.now.file c.self.inside.memory
    c.self.inside.below
    c.tick.new.self c.args.self.now c.self.view_is c.args.power.now c.tick.new.power
    ((floor_stacks g.W.Lower.means g.W.Tower.rooted g.W.Tower.stands g.met.W.Lower.keeps g.met.W.Tower.stacks).stands c.args.typed.now.file c.args.self.now
    c.requires.serves.fits) c.tick.ensures.stands
    name _ (c.tick.ensures.ends (below_as g.W.Lower.means c.self.inside.place c.args.layer c.self.inside.memory c.self.inside.below c.args.self.now
    c.self.view_is c.self.invariant c.if-layer-self.false inside) name is)

pub returns-else-layer-self-clause-serves : goal.returns-else-layer-self-clause-serves
returns-else-layer-self-clause-serves g c =
    serves_under_as g.W.Lower.means g.W.Tower.rooted g.W.Tower.stands g.met.W.Lower.keeps g.met.W.Tower.stacks c.args.typed.now.file
    c.self.inside.memory c.self.inside.below
    c.tick.new.self c.args.self.now c.self.view_is c.args.power.now c.tick.new.power
    ((floor_stacks g.W.Lower.means g.W.Tower.rooted g.W.Tower.stands g.met.W.Lower.keeps g.met.W.Tower.stacks).stands c.args.typed.now.file c.args.self.now
    c.requires.serves.fits) c.tick.ensures.stands
    _ c.requires.serves.fits c.tick.ensures.serves

pub returns-else-layer-self-clause-stands : goal.returns-else-layer-self-clause-stands
returns-else-layer-self-clause-stands g c =
    under_as g.W.Lower.means g.W.Tower.rooted g.W.Tower.stands g.met.W.Lower.keeps g.met.W.Tower.stacks c.args.typed.now.file c.self.inside.memory
    c.self.inside.below
    c.tick.new.self c.args.self.now c.self.view_is c.args.power.now c.tick.new.power
    ((floor_stacks g.W.Lower.means g.W.Tower.rooted g.W.Tower.stands g.met.W.Lower.keeps g.met.W.Tower.stacks).stands c.args.typed.now.file c.args.self.now
    c.requires.serves.fits) c.tick.ensures.stands
