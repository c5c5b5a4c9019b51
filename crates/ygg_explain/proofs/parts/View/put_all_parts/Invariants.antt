use Rattle.std.proofs.Common.{drop}
use Rattle.ygg_explain.proofs.Telling.{TellsAll}
use Rattle.ygg_explain.proofs.parts.View.put_all_parts.Given as goal

-- with the lines of what is left all lines are told
abbrev pub invariant-loop-e : goal.invariant-loop-e
invariant-loop-e l = TellsAll l.self l.wanted l.which l.es (drop l.e-index l.es) l.initial.out l.out
