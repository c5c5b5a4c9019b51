use Rattle.std.proofs.Common.{[]}
use Rattle.ygg_cert.proofs.reader.check_goals.Goals as goal

pub returns-in-Ok : goal.returns-in-Ok
returns-in-Ok g c = c.finished.ensures [] (c.in-Ok.ensures (g.G.Goals.wanted c.args.goals.now))
