use Rattle.std.proofs.Common.{ℕ, ◌<◌, sym, subst}
use Rattle.ygg_machine.proofs.Seeing.{tick_seen, runs_seen, serves_seen, still_looks}
use Rattle.ygg_machine.proofs.viewed.tick.Goals as goal

pub tick-requires-clause-serves : goal.tick-requires-clause-serves
tick-requires-clause-serves g c =
    serves_seen g.T.Lower.means g.T.Tower.rooted g.T.Tower.stands g.T.Viewed.seen g.met.T.Viewed.sees
    c.args.typed.now.file (record { machine = c.args.tower.now; power = c.args.power.now }) c.requires.runs c.requires.fuse

pub returns-clause-ends : goal.returns-clause-ends
returns-clause-ends g c = λ name is.
    tick_seen g.T.Lower.means g.T.Tower.rooted g.T.Tower.stands g.T.Viewed.seen g.met.T.Viewed.sees
    c.args.typed.now.file (record { machine = c.args.tower.now; power = c.args.power.now })
    (record { machine = c.tick.new.self; power = c.tick.new.power })
    (g.met.T.Tower.stacks.stands c.args.typed.now.file c.args.tower.now
    (g.met.T.Viewed.sees.fits c.args.typed.now.file c.args.tower.now c.requires.runs)) name _ (c.tick.ensures.ends
    (subst (λ (n : ℕ). c.args.layer < n) (sym (g.met.T.Viewed.sees.number c.args.tower.now)) c.requires.layer) name is)

pub returns-clause-runs : goal.returns-clause-runs
returns-clause-runs g c =
    runs_seen g.T.Lower.means g.T.Tower.rooted g.T.Tower.stands g.T.Viewed.seen g.met.T.Viewed.sees
    c.args.typed.now.file _ (record { machine = c.tick.new.self; power = c.tick.new.power }) _ c.tick.ensures.serves

pub returns-clause-looks : goal.returns-clause-looks
returns-clause-looks g c =
    still_looks g.T.Lower.means g.T.Tower.rooted g.T.Tower.stands g.T.Viewed.seen g.met.T.Viewed.sees
    c.args.typed.now.file c.args.tower.now c.tick.new.self c.tick.ensures.stands
