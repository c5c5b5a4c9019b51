use Rattle.std.proofs.Common.{◌≡◌, take}
use Rattle.ygg_cnf_set.proofs.packed_clause.pack_all.Given as goal

abbrev pub invariant-loop-clause : goal.invariant-loop-clause
invariant-loop-clause l = l.packed.items ≡ take l.clause-index l.clause-items
