use Rattle.ygg_dimacs.specs.Places.{place}
use Rattle.ygg_dimacs.proofs.Lining.{next_more}
use Rattle.ygg_dimacs.proofs.lines.next_line.Goals as goal

pub returns-in-Some-clause-next : goal.returns-in-Some-clause-next
returns-in-Some-clause-next c =
    let pieces = rw c.in-Some.is at c.cut_line.ensures.pieces in
    let both = next_more c.args.at.line (place c.args.at.line c.args.at.column) c.args.at.bytes c.in_ok-bytes.bytes c.cut_line.result.0.now
    c.in-Some.others.now c.in_ok-bytes.was pieces in
    record { lines = both.0; ends = both.1 }
