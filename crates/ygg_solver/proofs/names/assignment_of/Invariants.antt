use Rattle.std.proofs.Common.{take}
use Rattle.ygg_solver.specs.Names.{GivesValues}
use Rattle.ygg_solver.proofs.names.assignment_of.Given as goal

abbrev pub invariant-loop-entry : goal.invariant-loop-entry
invariant-loop-entry l = GivesValues l.variables (take l.entry-index l.trail) l.values.items
