use Rattle.std.proofs.Common.{◌≡◌, drop}
use Rattle.ygg_eval.specs.ygg_meaning.Shapes.{values_fit}
use Rattle.ygg_eval.proofs.shapes.values_fit.Given as goal

-- what is left decides
abbrev pub invariant-loop-i : goal.invariant-loop-i
invariant-loop-i l = values_fit (drop l.i l.declared) (drop l.i l.values) ≡ values_fit l.declared l.values
