use Rattle.std.proofs.Common.{◌≡◌, ◌++◌, drop}
use Rattle.ygg_meaning_laws.specs.Environments.{bind}
use Rattle.ygg_eval_expr.specs.Held.{env_of}
use Rattle.ygg_eval_expr.proofs.held.lend_values.Given as goal

-- those so far, and then what is left
abbrev pub invariant-loop-i : goal.invariant-loop-i
invariant-loop-i l = env_of l.bindings.items ++ bind (drop l.i l.declared) (drop l.i l.values) ≡ env_of l.fn.bindings.items ++ bind l.declared l.values
