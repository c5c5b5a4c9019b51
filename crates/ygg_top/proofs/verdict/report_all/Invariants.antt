use Rattle.std.proofs.Common.{◌≡◌, ◌≤◌}
use Rattle.ygg_top.specs.Findings.{IsReported}
use Rattle.ygg_top.proofs.verdict.report_all.Given as goal

abbrev pub invariant-loop-o : goal.invariant-loop-o
invariant-loop-o g l = record {
  place : l.place ≡ l.o-index;
  same : l.bank ≡ l.initial.bank;
  later : g.K.Sink.faults l.initial.sink ≤ g.K.Sink.faults l.sink;
  reported : IsReported l.initial.bank l.budget l.all (g.K.Sink.taken l.initial.sink) (g.K.Sink.taken l.sink) l.o-index l.summary;
}
