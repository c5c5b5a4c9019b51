use Rattle.std.proofs.Common.{refl, ap, ◌+◌, ℕ}
use Rattle.ygg_cnf.proofs.Running.{no_run, counted, run_to, run_literal}
use Rattle.ygg_cnf.specs.Runs.{spot_in}
use Rattle.ygg_cnf.proofs.literals.read_literals.Goals as goal
use Rattle.ygg_cnf.proofs.literals.read_literals.Goals.{in-Part, in-Literal+in_ok-push-in-Literal}

pub loop-byte-init : goal.loop-byte-init
loop-byte-init c = record {
  count = refl;
  run = λ chain. no_run c.args.piece.now (record { spot = spot_in c.args.first; clause = c.args.clause.now; chain = chain });
}

pub loop-byte-preserved : goal.loop-byte-preserved
loop-byte-preserved c = record {
  count = ap (λ (n : ℕ). n + 1) c.loop-byte.invariant.count;
  run = λ chain. elim c.match-byte_within.branch [
    | in-Part w ↦ rw (w.part-is, w.clause-is) (run_to c.args.piece.now c.loop-byte.byte-index _ c.loop-byte.clause chain (spot_in c.loop-byte.part)
        (spot_in w.in-Part.more) c.loop-byte-test.true (c.loop-byte.invariant.run chain) (λ _. rw w.in-Part.is at c.byte_within.ensures))
    | in-Literal+in_ok-push-in-Literal w ↦ rw (w.part-is, w.clause-is) (run_literal c.args.piece.now c.loop-byte.byte-index _ c.loop-byte.clause _ chain
        (spot_in c.loop-byte.part) w.in-Literal.lit c.loop-byte-test.true (c.loop-byte.invariant.run chain)
        (λ _. rw w.in-Literal.is at c.byte_within.ensures) w.in_ok-push-in-Literal.ensures.ok)
  ];
}

pub returns-in-Other : goal.returns-in-Other
returns-in-Other c chain = counted c.args.piece.now _ _ _ _ c.loop-byte.invariant.count (c.loop-byte.invariant.run chain)

pub returns : goal.returns
returns c chain = counted c.args.piece.now _ _ _ _ c.loop-byte.invariant.count (c.loop-byte.invariant.run chain)
