use Rattle.ygg_blast.proofs.Steps.{Clausal}
use Rattle.ygg_blast.proofs.clauses.put_gates.Given as goal

abbrev pub invariant-loop-place : goal.invariant-loop-place
invariant-loop-place g l = Clausal l.gates (g.S.ClauseSink.held l.fn.sink) l.place (g.S.ClauseSink.held l.sink)
