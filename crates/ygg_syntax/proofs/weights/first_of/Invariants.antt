use Rattle.ygg_syntax.proofs.Searched.{Searched}
use Rattle.ygg_syntax.proofs.weights.first_of.Given as goal

-- those so far have other names
abbrev pub invariant-loop-place : goal.invariant-loop-place
invariant-loop-place l = Searched l.defs l.name l.place
