use Rattle.std.proofs.Common.{◌≡◌, List, ◌++◌, length}
use Rattle.ygg_dimacs.specs.Places.{TextPlace, TextWord}
use Rattle.ygg_dimacs.specs.Left.{left_words}
use Rattle.ygg_dimacs.specs.States.{IsReady, read_on}
use Rattle.ygg_dimacs.proofs.reading.take_words.Given as goal

-- what is left of the line goes on from here
abbrev pub invariant-loop-word : goal.invariant-loop-word
invariant-loop-word l = record {
  ready : IsReady l.state;
  variables : l.state.variables ≡ l.initial.state.variables;
  on : (end : TextPlace) (ws : List TextWord) → read_on l.initial.state end (left_words l.fn.at ++ ws) ≡ read_on l.state end (left_words l.left ++ ws);
}

abbrev pub decreases-loop-word : goal.decreases-loop-word
decreases-loop-word l = length l.left.bytes.now
