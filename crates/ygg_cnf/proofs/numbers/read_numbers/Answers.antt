use Rattle.std.proofs.Common.{refl, ap, ◌+◌, ℕ, sym, subst}
use Rattle.ygg_cnf.specs.Runs.{IsRun, reader_at}
use Rattle.ygg_cnf.proofs.Running.{no_run, run_digit, run_number}
use Rattle.ygg_cnf.proofs.numbers.read_numbers.Goals as goal
use Rattle.ygg_cnf.proofs.numbers.read_numbers.Goals.{in-Digits, in-Number+in_ok-push-in-Number}

pub loop-byte-init : goal.loop-byte-init
loop-byte-init c = record { count = refl; run = λ clause. no_run c.args.piece.now (reader_at c.args.first clause c.args.chain.now) }

pub loop-byte-preserved : goal.loop-byte-preserved
loop-byte-preserved c = record {
  count = ap (λ (n : ℕ). n + 1) c.loop-byte.invariant.count;
  run = λ clause. elim c.match-byte_among.branch [
    | in-Digits w ↦ rw (w.number-is, w.chain-is) (run_digit c.args.piece.now c.loop-byte.byte-index _ clause c.loop-byte.chain c.loop-byte.number
        w.in-Digits.longer c.loop-byte-test.true (c.loop-byte.invariant.run clause) (rw w.in-Digits.is at c.byte_among.ensures))
    | in-Number+in_ok-push-in-Number w ↦ rw (w.number-is, w.chain-is) (run_number c.args.piece.now c.loop-byte.byte-index _ clause c.loop-byte.chain _
        c.loop-byte.number w.in-Number.whole c.loop-byte-test.true (c.loop-byte.invariant.run clause) (rw w.in-Number.is at c.byte_among.ensures)
        w.in_ok-push-in-Number.ensures.ok)
  ];
}

pub returns-in-Other : goal.returns-in-Other
returns-in-Other c clause =
    subst (λ (n : ℕ). IsRun c.args.piece.now (reader_at c.args.first clause c.args.chain.now) (reader_at c.loop-byte.number clause c.loop-byte.chain) n)
    (sym c.loop-byte.invariant.count) (c.loop-byte.invariant.run clause)

pub returns : goal.returns
returns c clause =
    subst (λ (n : ℕ). IsRun c.args.piece.now (reader_at c.args.first clause c.args.chain.now) (reader_at c.loop-byte.number clause c.loop-byte.chain) n)
    (sym c.loop-byte.invariant.count) (c.loop-byte.invariant.run clause)
