use Rattle.std.proofs.Common.{◌≡◌, ◌≤◌}
use Rattle.ygg_dimacs.specs.Sizes.{left_size}
use Rattle.ygg_dimacs.specs.Left.{left_content, left_end}
use Rattle.ygg_dimacs.proofs.lines.next_content.Given as goal

-- what is left counts for all
abbrev pub invariant-loop-line : goal.invariant-loop-line
invariant-loop-line l = record {
  lines : left_content l.fn.at ≡ left_content l.left;
  ends : left_end l.fn.at ≡ left_end l.left;
  size : left_size l.left.bytes ≤ left_size l.fn.at.bytes;
}

abbrev pub decreases-loop-line : goal.decreases-loop-line
decreases-loop-line l = left_size l.left.bytes
