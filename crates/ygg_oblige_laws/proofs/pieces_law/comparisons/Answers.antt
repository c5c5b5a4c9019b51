use Rattle.ygg_oblige_laws.proofs.Compares.{comparing_means}
use Rattle.ygg_oblige_laws.proofs.pieces_law.comparisons.Goals as goal

pub returns : goal.returns
returns c = comparing_means
