use Rattle.ygg_oblige_laws.proofs.Starting.{states_mean}
use Rattle.ygg_oblige_laws.proofs.pieces_law.states.Goals as goal

pub returns : goal.returns
returns c = states_mean
