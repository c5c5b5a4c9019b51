use Rattle.std.proofs.Common.{take, length, All}
use Rattle.ygg_cnf.specs.Logs.{IsOpen}
use Rattle.ygg_watch.specs.Trail.{assigned_before}
use Rattle.ygg_watch.proofs.spreading.scan.Given as goal

abbrev pub invariant-loop-at : goal.invariant-loop-at
invariant-loop-at l = All (IsOpen (assigned_before l.trail.entries.items (length l.trail.entries.items))) (take l.at l.clauses)
