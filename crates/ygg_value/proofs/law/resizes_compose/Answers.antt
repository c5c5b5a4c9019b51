use Rattle.ygg_value.proofs.Results.{resized-resized, resized-own}
use Rattle.ygg_value.proofs.law.resizes_compose.Goals as goal

pub returns : goal.returns
returns c = record { compose = resized-resized; keeps = resized-own }
