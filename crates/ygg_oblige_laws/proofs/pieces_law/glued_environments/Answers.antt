use Rattle.ygg_oblige_laws.proofs.Glued.{glued_means}
use Rattle.ygg_oblige_laws.proofs.pieces_law.glued_environments.Goals as goal

pub returns : goal.returns
returns c = glued_means
