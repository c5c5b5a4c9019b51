use Rattle.ygg_machine.specs.Floors.{floor_meaning}
use Rattle.ygg_machine.specs.FloorStacks.{floor_stacks}
use Rattle.ygg_machine.specs.Towers.{floor_rooted, StandsOn}
use Rattle.ygg_machine.specs.Viewed.{floor_seen, floor_sees}
use Rattle.ygg_machine.proofs.Seeing.{call_seen_as, runs_seen, serves_seen}
use Rattle.ygg_machine.proofs.viewed.call.Goals as goal

pub operate-requires-clause-serves : goal.operate-requires-clause-serves
operate-requires-clause-serves g c =
    serves_seen (floor_meaning g.W.Lower.means) (floor_rooted g.W.Tower.rooted) (StandsOn g.W.Lower.means g.W.Tower.stands) (floor_seen g.W.Viewed.seen)
    (floor_sees g.W.Lower.means g.W.Tower.rooted g.W.Tower.stands g.W.Viewed.seen g.met.W.Viewed.sees)
    c.args.typed.now.file (record { machine = c.args.tower.now; power = c.args.power.now }) c.requires.runs c.requires.fuse

pub returns-clause-ends : goal.returns-clause-ends
returns-clause-ends g c =
    call_seen_as (floor_meaning g.W.Lower.means) (floor_rooted g.W.Tower.rooted) (StandsOn g.W.Lower.means g.W.Tower.stands) (floor_seen g.W.Viewed.seen)
    (floor_sees g.W.Lower.means g.W.Tower.rooted g.W.Tower.stands g.W.Viewed.seen g.met.W.Viewed.sees)
    c.args.typed.now.file (record { machine = c.args.tower.now; power = c.args.power.now })
    (record { machine = c.operate.new.self; power = c.operate.new.power })
    ((floor_stacks g.W.Lower.means g.W.Tower.rooted g.W.Tower.stands g.met.W.Lower.keeps g.met.W.Tower.stacks).stands c.args.typed.now.file c.args.tower.now
    ((floor_sees g.W.Lower.means g.W.Tower.rooted g.W.Tower.stands g.W.Viewed.seen g.met.W.Viewed.sees).fits c.args.typed.now.file c.args.tower.now
    c.requires.runs)) c.args.op c.args.args.now _ c.operate.ensures.ends

pub returns-clause-runs : goal.returns-clause-runs
returns-clause-runs g c =
    runs_seen (floor_meaning g.W.Lower.means) (floor_rooted g.W.Tower.rooted) (StandsOn g.W.Lower.means g.W.Tower.stands) (floor_seen g.W.Viewed.seen)
    (floor_sees g.W.Lower.means g.W.Tower.rooted g.W.Tower.stands g.W.Viewed.seen g.met.W.Viewed.sees)
    c.args.typed.now.file _ (record { machine = c.operate.new.self; power = c.operate.new.power }) _ c.operate.ensures.serves
