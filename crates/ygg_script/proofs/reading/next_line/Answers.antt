use Rattle.std.proofs.Common.{refl}
use Rattle.ygg_script.proofs.Pieces.{cut_next, cut_last}
use Rattle.ygg_script.proofs.reading.next_line.Goals as goal

pub returns-in-Some-clause-ok : goal.returns-in-Some-clause-ok
returns-in-Some-clause-ok c = record {
  pieces = cut_next c.args.at.bytes.now c.cut.result.0.now c.cut.result.1 c.in-Some.bytes c.cut.ensures.cut c.in-Some.is;
  line = refl;
  shorter = rw c.in-Some.is at c.cut.ensures.shorter;
}

pub returns-in-None-clause-err : goal.returns-in-None-clause-err
returns-in-None-clause-err c = (c.refused.ensures, cut_last c.args.at.bytes.now c.cut.result.0.now c.cut.result.1 c.cut.ensures.cut c.in-None.is)
