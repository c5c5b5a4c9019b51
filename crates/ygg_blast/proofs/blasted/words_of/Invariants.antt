use Rattle.std.proofs.Common.{◌≡◌, take}
use Rattle.ygg_cnf.specs.Literals.{truth_of}
use Rattle.ygg_gates.specs.Sources.{environment_by}
use Rattle.ygg_blast.proofs.blasted.words_of.Given as goal

abbrev pub invariant-loop-source : goal.invariant-loop-source
invariant-loop-source l = l.env ≡ environment_by (truth_of l.assignment) (take l.source-index l.source-items)
