use Rattle.std.proofs.Common.{◌≡◌, ◌++◌, drop}
use Rattle.ygg_eval.specs.Zeros.{AreShapes, zero_values}
use Rattle.ygg_eval.proofs.zeroing.zeros.Given as goal

-- those so far, and then what is left
abbrev pub invariant-loop-variable : goal.invariant-loop-variable
invariant-loop-variable l = (l.values ++ zero_values (drop l.variable-index l.declared) ≡ zero_values l.declared)
    × AreShapes (drop l.variable-index l.declared)
