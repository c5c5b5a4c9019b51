use Rattle.std.proofs.Common.{◌≡◌, List}
use Rattle.ygg_cnf.specs.declared.lit.Lit.{Lit}
use Rattle.ygg_cnf.specs.Runs.{IsRun, reader_at}
use Rattle.ygg_cnf.proofs.numbers.read_numbers.Given as goal

abbrev pub invariant-loop-byte : goal.invariant-loop-byte
invariant-loop-byte l = record {
  count : l.count ≡ l.byte-index;
  run : (clause : List Lit) → IsRun l.piece (reader_at l.first clause l.initial.chain) (reader_at l.number clause l.chain) l.byte-index;
}
