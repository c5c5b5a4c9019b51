use Rattle.std.proofs.Common.{◌≡◌, ◌++◌, drop}
use Rattle.ygg_meaning_laws.specs.Environments.{bind}
use Rattle.ygg_eval_expr.specs.Held.{env_of, held_values}
use Rattle.ygg_eval_expr.proofs.evaluator.bound.Given as goal

-- those so far, and then what is left
abbrev pub invariant-loop-i : goal.invariant-loop-i
invariant-loop-i l = env_of l.bindings.items ++ bind (drop l.i l.parameters) (held_values (drop l.i l.args)) ≡ bind l.parameters (held_values l.args)
