use Rattle.std.proofs.Common.{inr, refl, []}
use Rattle.ygg_cnf.proofs.Flowing.{cut_here}
use Rattle.ygg_dimacs.specs.Counted.{between, clauses_text}
use Rattle.ygg_dimacs.proofs.putting.put_circuit.Goals as goal

pub returns-in_default-clause-told : goal.returns-in_default-clause-told
returns-in_default-clause-told g c =
    inr (inr (refl, cut_here (g.K.Sink.taken c.args.sink.now) [] (clauses_text (between c.args.gates.now c.args.goal))))
