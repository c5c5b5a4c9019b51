use Rattle.std.proofs.Common.{drop}
use Rattle.ygg_gates.specs.Groups.{circuit}
use Rattle.ygg_blast.proofs.Filling.{Filling}
use Rattle.ygg_blast.proofs.groups.groups_of.Given as goal

abbrev pub invariant-loop-place : goal.invariant-loop-place
invariant-loop-place l = Filling l.bank l.fn.term (circuit l.table l.sources l.gates.items) (drop l.place-index l.places)
