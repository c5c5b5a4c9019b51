use Rattle.ygg_base.specs.Ram.{NoneBefore}
use Rattle.ygg_base.proofs.image.place_of.Given as goal

abbrev pub invariant-loop-place : goal.invariant-loop-place
invariant-loop-place l = NoneBefore l.stored l.name l.place
