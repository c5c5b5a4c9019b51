use Rattle.std.proofs.Common.{sym}
use Rattle.ygg_dimacs.specs.Left.{word_of}
use Rattle.ygg_dimacs.proofs.reading.take_word.Goals as goal

pub returns-in-Ok : goal.returns-in-Ok
returns-in-Ok c = (c.in-Ok.ensures.goes (word_of c.args.word) (sym c.in-Some.ensures.is), c.in-Ok.ensures.ready)
