use Rattle.std.proofs.Common.{◌≡◌, List, ◌++◌}
use Rattle.ygg_dimacs.specs.Sizes.{left_size}
use Rattle.ygg_dimacs.specs.Places.{TextPlace, TextWord}
use Rattle.ygg_dimacs.specs.Words.{words_of_all}
use Rattle.ygg_dimacs.specs.Left.{left_content, left_end}
use Rattle.ygg_dimacs.specs.States.{IsReady, read_on}
use Rattle.ygg_dimacs.proofs.reading.take_lines.Given as goal

-- the lines that are left go on from here
abbrev pub invariant-loop-line : goal.invariant-loop-line
invariant-loop-line l = record {
  ready : IsReady l.state;
  variables : l.state.variables ≡ l.initial.state.variables;
  ends : left_end l.fn.rest ≡ left_end l.left;
  on : (end : TextPlace) (ws : List TextWord) → read_on l.initial.state end (words_of_all (left_content l.fn.rest) ++ ws)
      ≡ read_on l.state end (words_of_all (left_content l.left) ++ ws);
}

abbrev pub decreases-loop-line : goal.decreases-loop-line
decreases-loop-line l = left_size l.left.bytes
