use Rattle.std.proofs.Common.{refl}
use Rattle.ygg_meaning_laws.proofs.Sounds.{sound}
use Rattle.ygg_meaning_laws.proofs.ProgressSounds.{block_sound}
use Rattle.ygg_meaning_laws.proofs.progress_law.blocks_are_sound.Goals as goal

pub returns : goal.returns
returns c = λ functions kind scope b shape env answers g e k t.
    block_sound functions scope.lower (λ x. (sound functions x).gives) kind scope b shape env answers (record { lower_is = refl; agrees = g }) e k t
