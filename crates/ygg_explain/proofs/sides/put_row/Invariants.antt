use Rattle.std.proofs.Common.{◌≡◌}
use Rattle.ygg_value.specs.declared.row.Value.TheVariants.{Table}
use Rattle.ygg_explain.specs.Parts.{AreSameBefore}
use Rattle.ygg_explain.proofs.sides.put_row.Given as goal

-- nothing is written yet, and the tables are the same so far
abbrev pub invariant-loop-at : goal.invariant-loop-at
invariant-loop-at l = (l.out ≡ l.initial.out) × AreSameBefore (Table l.a) (Table l.b) l.at
