use Rattle.std.proofs.Common.{◌≡◌, map, take}
use Rattle.ygg_shape.specs.Replacing.{replaced_word}
use Rattle.ygg_shape.proofs.replacing.replaced_row.Given as goal

abbrev pub invariant-loop-word : goal.invariant-loop-word
invariant-loop-word l = l.answer ≡ map (replaced_word l.replacements) (take l.word-index l.word-items)
