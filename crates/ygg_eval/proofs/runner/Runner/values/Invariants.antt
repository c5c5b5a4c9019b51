use Rattle.std.proofs.Common.{◌≡◌, ◌++◌, drop}
use Rattle.ygg_eval_expr.specs.ygg_meaning.Progress.{values_of}
use Rattle.ygg_eval_expr.specs.Held.{env_of}
use Rattle.ygg_eval.specs.Ready.{eval_in}
use Rattle.ygg_eval.proofs.runner.Runner.values.Given as goal

-- what was found so far and what is left
abbrev pub invariant-loop-e : goal.invariant-loop-e
invariant-loop-e l =
    let eval = eval_in l.self.typed.now.file in
    l.values ++ values_of eval (drop l.e-index l.es) (env_of l.names) ≡ values_of eval l.es (env_of l.names)
