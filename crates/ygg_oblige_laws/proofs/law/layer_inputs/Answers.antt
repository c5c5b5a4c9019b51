-- It is the lemma.
use Rattle.ygg_oblige_laws.proofs.Whole.{layer_inputs}
use Rattle.ygg_oblige_laws.proofs.law.layer_inputs.Goals as goal

pub returns : goal.returns
returns c = layer_inputs
