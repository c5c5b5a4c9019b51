use Rattle.std.proofs.Common.{Bool, IsTrue, sym, subst}
use Rattle.ygg_machine.proofs.Seeing.{wake_seen, runs_seen, still_looks}
use Rattle.ygg_machine.proofs.viewed.wake.Goals as goal

pub wake-requires-clause-stands : goal.wake-requires-clause-stands
wake-requires-clause-stands g c = g.met.T.Viewed.sees.stands c.args.typed.now.file c.args.tower.now c.requires.stands

pub wake-requires-clause-fuse : goal.wake-requires-clause-fuse
wake-requires-clause-fuse g c = λ is. subst (λ (b : Bool). IsTrue b) (sym g.met.T.Viewed.sees.can_lose) (c.requires.fuse is)

pub returns-clause-ends : goal.returns-clause-ends
returns-clause-ends g c =
    wake_seen g.T.Lower.means g.T.Tower.rooted g.T.Tower.stands g.T.Viewed.seen g.met.T.Viewed.sees
    c.args.typed.now.file (record { machine = c.args.tower.now; power = c.args.power.now })
    (record { machine = c.wake.new.self; power = c.wake.new.power })
    (g.met.T.Viewed.sees.stands c.args.typed.now.file c.args.tower.now c.requires.stands) _ c.wake.ensures.ends

pub returns-clause-runs : goal.returns-clause-runs
returns-clause-runs g c =
    runs_seen g.T.Lower.means g.T.Tower.rooted g.T.Tower.stands g.T.Viewed.seen g.met.T.Viewed.sees
    c.args.typed.now.file _ (record { machine = c.wake.new.self; power = c.wake.new.power }) _ c.wake.ensures.serves

pub returns-clause-looks : goal.returns-clause-looks
returns-clause-looks g c =
    still_looks g.T.Lower.means g.T.Tower.rooted g.T.Tower.stands g.T.Viewed.seen g.met.T.Viewed.sees
    c.args.typed.now.file c.args.tower.now c.wake.new.self c.wake.ensures.stands
