use Rattle.ygg_cert.proofs.Giving.{lost_judges, none_read}
use Rattle.ygg_cert.proofs.opened.check_open.Goals as goal

pub returns-clause-judged : goal.returns-clause-judged
returns-clause-judged g c =
    c.read_all.ensures.judged (g.L.Library.reading c.args.library.now)
    (none_read (g.G.Goals.wanted c.args.goals.now) (g.L.Library.reading c.args.library.now) c.in-Ok-new.reading c.requires
    (c.in-Ok-new.ensures (g.G.Goals.wanted c.args.goals.now)))

pub returns-in_default-clause-judged : goal.returns-in_default-clause-judged
returns-in_default-clause-judged g c = lost_judges (g.G.Goals.wanted c.args.goals.now) (g.L.Library.reading c.args.library.now) c.requires

pub returns-in_default-new-clause-judged : goal.returns-in_default-new-clause-judged
returns-in_default-new-clause-judged g c = lost_judges (g.G.Goals.wanted c.args.goals.now) (g.L.Library.reading c.args.library.now) c.requires
