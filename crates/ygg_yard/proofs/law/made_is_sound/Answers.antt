use Rattle.ygg_yard.proofs.Whole.{made_is_sound}
use Rattle.ygg_yard.proofs.law.made_is_sound.Goals as goal

pub returns : goal.returns
returns c = made_is_sound
