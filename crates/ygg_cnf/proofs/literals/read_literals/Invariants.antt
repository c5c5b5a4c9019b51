use Rattle.std.proofs.Common.{◌≡◌, ℕ, List}
use Rattle.ygg_cnf.specs.Runs.{IsRun, spot_in}
use Rattle.ygg_cnf.proofs.literals.read_literals.Given as goal

abbrev pub invariant-loop-byte : goal.invariant-loop-byte
invariant-loop-byte l = record {
  count : l.count ≡ l.byte-index;
  run : (chain : List ℕ) → IsRun l.piece (record { spot = spot_in l.fn.first; clause = l.initial.clause; chain = chain })
      (record { spot = spot_in l.part; clause = l.clause; chain = chain }) l.byte-index;
}
