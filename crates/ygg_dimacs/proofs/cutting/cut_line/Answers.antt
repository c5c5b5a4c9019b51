use Rattle.ygg_dimacs.proofs.Splitting.{line_at}
use Rattle.ygg_dimacs.proofs.cutting.cut_line.Goals as goal

pub returns-then-byte-eq10-clause-pieces : goal.returns-then-byte-eq10-clause-pieces
returns-then-byte-eq10-clause-pieces c =
    line_at c.args.bytes.now c.loop-place.place c.loop-place-test.true c.loop-place.invariant c.if-byte-eq10.true
