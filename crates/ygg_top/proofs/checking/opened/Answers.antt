use Rattle.ygg_base.specs.Outside.{Rose}
use Rattle.ygg_top.proofs.of_ygg_top_command.Stops.{too_large}
use Rattle.ygg_top.specs.Checking.{most_certificate_bytes}
use Rattle.ygg_top.proofs.Checked.{opens_named, absent_unread}
use Rattle.ygg_top.proofs.checking.opened.Goals as goal

pub returns-in-Open-clause-opens : goal.returns-in-Open-clause-opens
returns-in-Open-clause-opens g c =
    opens_named most_certificate_bytes (g.L.Library.files c.args.library.now) c.args.name.now (g.L.Library.reading c.open.new.self) c.in-Open.ensures.opens
    c.in-Open.ensures.told

pub returns-in-Absent-clause-unread : goal.returns-in-Absent-clause-unread
returns-in-Absent-clause-unread g c =
    absent_unread most_certificate_bytes 2 (g.L.Library.files c.args.library.now) c.args.name.now (g.L.Library.reading c.open.new.self)
    (Rose (g.L.Library.faults c.args.library.now) (g.L.Library.faults c.open.new.self)) c.at.result c.at.ensures c.in-Absent.ensures.told

pub returns-in-TooLarge-clause-unread : goal.returns-in-TooLarge-clause-unread
returns-in-TooLarge-clause-unread g c =
    too_large (g.L.Library.files c.args.library.now) c.args.name.now (Rose (g.L.Library.faults c.args.library.now) (g.L.Library.faults c.open.new.self))
    most_certificate_bytes 2 c.at-in-TooLarge.result c.at-in-TooLarge.ensures c.in-TooLarge.ensures.told
