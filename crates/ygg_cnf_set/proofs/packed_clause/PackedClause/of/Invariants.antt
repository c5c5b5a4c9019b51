use Rattle.std.proofs.Common.{◌≡◌, take}
use Rattle.ygg_cnf_set.proofs.packed_clause.PackedClause.of.Given as goal

abbrev pub invariant-loop-lit : goal.invariant-loop-lit
invariant-loop-lit l = l.clause ≡ take l.lit-index l.lits
