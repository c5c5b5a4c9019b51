use Rattle.ygg_meaning_laws.proofs.Definitions.{definitions_meet}
use Rattle.ygg_meaning_laws.proofs.law.definitions_are_sound.Goals as goal

pub returns : goal.returns
returns c = definitions_meet
