use Rattle.std.proofs.Common.{◌++◌, ◌≤◌, drop}
use Rattle.std.specs.List.{flat_map}
use Rattle.ygg_cnf.specs.Pieces.{Flows}
use Rattle.ygg_certify.specs.Findings.{lines_of}
use Rattle.ygg_certify.proofs.putting.pass_findings.Given as goal

-- what is put and kept, and the lines that are still to come
abbrev pub invariant-loop-finding : goal.invariant-loop-finding
invariant-loop-finding g l = record {
  flows :
      Flows (g.K.Sink.taken l.initial.sink) l.initial.kept (g.K.Sink.taken l.sink) (l.kept ++ flat_map lines_of (drop l.finding-index l.findings))
      (flat_map lines_of l.findings);
  later : g.K.Sink.faults l.initial.sink ≤ g.K.Sink.faults l.sink;
}
