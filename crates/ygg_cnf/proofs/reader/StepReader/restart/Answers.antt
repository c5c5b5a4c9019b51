use Rattle.ygg_cnf.proofs.Ending.{reads_none}
use Rattle.ygg_cnf.proofs.reader.StepReader.restart.Goals as goal

pub returns : goal.returns
returns c = reads_none _ _ c.empty.ensures c.empty-2.ensures
