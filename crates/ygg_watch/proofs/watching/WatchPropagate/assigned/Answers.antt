use Rattle.ygg_watch.proofs.watching.WatchPropagate.assigned.Goals as goal

pub returns-clause-none : goal.returns-clause-none
returns-clause-none c = rw (← c.self.view_is) c.assigned.ensures.none
