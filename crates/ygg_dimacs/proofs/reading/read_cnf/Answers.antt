use Rattle.ygg_dimacs.proofs.Numbered.{gives_numbered}
use Rattle.ygg_dimacs.proofs.reading.read_cnf.Goals as goal

pub returns-clause-numbered : goal.returns-clause-numbered
returns-clause-numbered c = gives_numbered c.args.text.now c.read_text.result c.read_text.ensures
