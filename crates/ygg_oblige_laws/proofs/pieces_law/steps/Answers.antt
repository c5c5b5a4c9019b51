use Rattle.ygg_oblige_laws.proofs.Steps.{steps_mean}
use Rattle.ygg_oblige_laws.proofs.pieces_law.steps.Goals as goal

pub returns : goal.returns
returns c = steps_mean
