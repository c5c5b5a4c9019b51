use Rattle.ygg_cnf.specs.Literals.{truth_of}
use Rattle.ygg_blast.proofs.Reading.{Reading}
use Rattle.ygg_blast.proofs.blasted.word_of.Given as goal

abbrev pub invariant-loop-place : goal.invariant-loop-place
invariant-loop-place l = Reading (truth_of l.assignment) l.fn.source.first l.fn.source.width l.place l.bits

abbrev pub decreases-loop-place : goal.decreases-loop-place
decreases-loop-place l = l.place
