use Rattle.ygg_cert.proofs.Stepped.{steps_may}
use Rattle.ygg_cert.proofs.law.steps_may.Goals as goal

pub returns : goal.returns
returns c = steps_may
