use Rattle.ygg_cnf.proofs.Ending.{reads_none}
use Rattle.ygg_cnf.proofs.reader.StepReader.new.Goals as goal

pub returns : goal.returns
returns c = reads_none _ _ c.new.ensures c.new-2.ensures
