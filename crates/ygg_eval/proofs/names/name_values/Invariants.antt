use Rattle.std.proofs.Common.{◌≡◌, ◌++◌, drop}
use Rattle.ygg_eval_expr.specs.ygg_meaning.Environments.{bind}
use Rattle.ygg_eval_expr.specs.Held.{env_of}
use Rattle.ygg_eval.proofs.names.name_values.Given as goal

-- those so far, and then what is left
abbrev pub invariant-loop-variable : goal.invariant-loop-variable
invariant-loop-variable l = env_of l.names.items ++ bind (drop l.variable-index l.declared) l.rest.rest.items ≡ env_of l.fn.names.items
    ++ bind l.declared l.fn.values.items
