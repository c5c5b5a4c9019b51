use Rattle.ygg_oblige_laws.proofs.Fresh.{fresh_means}
use Rattle.ygg_oblige_laws.proofs.pieces_law.fresh_values.Goals as goal

pub returns : goal.returns
returns c = fresh_means
