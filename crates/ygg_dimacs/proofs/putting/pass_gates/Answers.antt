use Rattle.std.proofs.Common.{arith, refl}
use Rattle.ygg_base.specs.Outside.{Rose}
use Rattle.ygg_blast.specs.ygg_gates.Clauses.{clauses_from}
use Rattle.ygg_dimacs.specs.Printing.{clause_lines}
use Rattle.ygg_cnf.proofs.Flowing.{rose_since}
use Rattle.ygg_dimacs.proofs.Texts.{gate_on, gate_short}
use Rattle.ygg_dimacs.proofs.putting.pass_gates.Goals as goal

pub returns-in-Err-clause-told : goal.returns-in-Err-clause-told
returns-in-Err-clause-told g c =
    gate_short (g.K.Sink.taken c.args.sink.now) (g.K.Sink.taken c.loop-place.sink) (g.K.Sink.taken c.pass_gate.new.sink) c.args.kept.now c.loop-place.kept
    c.pass_gate.new.kept c.pass_gate.new.kept (clause_lines (clauses_from 2 c.args.gates.now))
    (Rose (g.K.Sink.faults c.loop-place.sink) (g.K.Sink.faults c.pass_gate.new.sink))
    (Rose (g.K.Sink.faults c.args.sink.now) (g.K.Sink.faults c.pass_gate.new.sink))
    c.args.gates.now c.loop-place.place _ _ c.in-Err.status c.loop-place-test.true refl c.loop-place.invariant.flows c.in-Err.ensures.told
    (rose_since (g.K.Sink.faults c.args.sink.now) (g.K.Sink.faults c.loop-place.sink) (g.K.Sink.faults c.pass_gate.new.sink) c.loop-place.invariant.later)

pub loop-place-preserved : goal.loop-place-preserved
loop-place-preserved g c = record {
  flows = gate_on (g.K.Sink.taken c.args.sink.now) (g.K.Sink.taken c.loop-place.sink) (g.K.Sink.taken c.pass_gate.new.sink) c.args.kept.now c.loop-place.kept
      c.pass_gate.new.kept (clause_lines (clauses_from 2 c.args.gates.now)) c.args.gates.now c.loop-place.place _ _ c.loop-place-test.true refl
      c.loop-place.invariant.flows c.in-Ok.ensures.told;
  later = omega (arith, c.loop-place.invariant.later, c.pass_gate.ensures.later);
}
