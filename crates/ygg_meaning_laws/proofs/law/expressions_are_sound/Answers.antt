use Rattle.ygg_meaning_laws.proofs.Sounds.{sound}
use Rattle.ygg_meaning_laws.proofs.law.expressions_are_sound.Goals as goal

pub returns : goal.returns
returns c = λ functions e scope env agrees h. (sound functions e).gives scope env agrees h
