use Rattle.ygg_base.specs.Outside.{Rose}
use Rattle.ygg_top_command.proofs.Stops.{too_large}
use Rattle.ygg_top_command.proofs.fetching.fetched.Goals as goal

pub returns-in-TooLarge-clause-unread : goal.returns-in-TooLarge-clause-unread
returns-in-TooLarge-clause-unread g c =
    too_large (g.L.Library.files c.args.library.now) c.args.name.now (Rose (g.L.Library.faults c.args.library.now) (g.L.Library.faults c.fetch.new.self))
    c.args.most c.args.place c.at-in-TooLarge.result c.at-in-TooLarge.ensures c.in-TooLarge.ensures.told
