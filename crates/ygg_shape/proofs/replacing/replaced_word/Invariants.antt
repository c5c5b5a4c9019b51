use Rattle.std.proofs.Common.{◌≡◌, drop}
use Rattle.ygg_shape.specs.Replacing.{replaced_word}
use Rattle.ygg_shape.proofs.replacing.replaced_word.Given as goal

abbrev pub invariant-loop-replacement : goal.invariant-loop-replacement
invariant-loop-replacement l = replaced_word (drop l.replacement-index l.replacements) l.word ≡ replaced_word l.replacements l.word
