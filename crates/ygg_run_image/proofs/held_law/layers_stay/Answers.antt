use Rattle.ygg_run_image.specs.HeldLaws.{as_seen}
use Rattle.ygg_run_image.proofs.Staying.{layers_stay}
use Rattle.ygg_run_image.proofs.held_law.layers_stay.Goals as goal

pub returns : goal.returns
returns c start cause layers h = layers_stay as_seen start h cause layers
