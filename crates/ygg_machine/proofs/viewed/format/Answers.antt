use Rattle.ygg_machine.proofs.Seeing.{format_seen, runs_seen, still_looks}
use Rattle.ygg_machine.proofs.viewed.format.Goals as goal

pub returns-clause-ends : goal.returns-clause-ends
returns-clause-ends g c =
    format_seen g.T.Lower.means g.T.Tower.rooted g.T.Tower.stands g.T.Viewed.seen g.met.T.Viewed.sees
    c.args.typed.now.file (record { machine = c.args.tower.now; power = c.args.power.now })
    (record { machine = c.format.new.self; power = c.format.new.power })
    (g.met.T.Viewed.sees.stands c.args.typed.now.file c.args.tower.now c.requires.stands) _ c.format.ensures.ends

pub format-requires-clause-stands : goal.format-requires-clause-stands
format-requires-clause-stands g c = g.met.T.Viewed.sees.stands c.args.typed.now.file c.args.tower.now c.requires.stands

pub returns-clause-runs : goal.returns-clause-runs
returns-clause-runs g c =
    runs_seen g.T.Lower.means g.T.Tower.rooted g.T.Tower.stands g.T.Viewed.seen g.met.T.Viewed.sees
    c.args.typed.now.file _ (record { machine = c.format.new.self; power = c.format.new.power }) _ c.format.ensures.serves

pub returns-clause-looks : goal.returns-clause-looks
returns-clause-looks g c =
    still_looks g.T.Lower.means g.T.Tower.rooted g.T.Tower.stands g.T.Viewed.seen g.met.T.Viewed.sees
    c.args.typed.now.file c.args.tower.now c.format.new.self c.format.ensures.stands
