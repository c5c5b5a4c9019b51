use Rattle.std.proofs.Common.{◌≡◌}
use Rattle.std.specs.Option.{option_copied}
use Rattle.ygg_script.specs.Names.{are_words}
use Rattle.ygg_script.specs.Left.{pieces_left}
use Rattle.ygg_script.proofs.Pieces.{left_length}
use Rattle.ygg_script.proofs.names.are_words.Given as goal

-- what is left decides
abbrev pub invariant-loop-left : goal.invariant-loop-left
invariant-loop-left l = are_words (pieces_left 32 (option_copied l.left)) ≡ are_words (pieces_left 32 (option_copied l.words))

abbrev pub decreases-loop-left : goal.decreases-loop-left
decreases-loop-left l = left_length l.left
