-- It is the lemma.
use Rattle.ygg_oblige_laws.proofs.Files.{typed_layers}
use Rattle.ygg_oblige_laws.proofs.typed_law.typed_layers.Goals as goal

pub returns : goal.returns
returns c = typed_layers
