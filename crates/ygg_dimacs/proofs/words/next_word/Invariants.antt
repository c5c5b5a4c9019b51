use Rattle.std.proofs.Common.{◌≡◌, ◌≤◌, length}
use Rattle.ygg_dimacs.specs.Left.{left_words}
use Rattle.ygg_dimacs.proofs.words.next_word.Given as goal

-- what is left has all words
abbrev pub invariant-loop-left : goal.invariant-loop-left
invariant-loop-left l = record {
  words : left_words l.fn.at ≡ left_words l.left;
  size : length l.left.bytes.now ≤ length l.fn.at.bytes.now;
}

abbrev pub decreases-loop-left : goal.decreases-loop-left
decreases-loop-left l = length l.left.bytes.now
