use Rattle.std.proofs.Common.{take, []}
use Rattle.ygg_watch.specs.State.{IsLive}
use Rattle.ygg_watch.proofs.watching.links_for.Given as goal

abbrev pub invariant-loop : goal.invariant-loop
invariant-loop l = IsLive (take l.counter l.clauses) l.links.watched l.links.next l.links.firsts [] [] l.variable_count [] 0 0
