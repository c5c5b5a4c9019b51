use Rattle.std.proofs.Common.{◌≡◌, ◌++◌, drop, map}
use Rattle.ygg_value.specs.Number.{Number}
use Rattle.ygg_eval_expr.specs.ygg_meaning.Progress.{indices_of}
use Rattle.ygg_eval_expr.specs.Held.{env_of}
use Rattle.ygg_eval.specs.Ready.{eval_in}
use Rattle.ygg_eval.proofs.runner.Runner.places.Given as goal

-- what was found so far and what is left
abbrev pub invariant-loop-index : goal.invariant-loop-index
invariant-loop-index l =
    let eval = eval_in l.self.typed.now.file in
    map (λ (w : Number). w.bits) l.places.items ++ indices_of eval (drop l.index-index l.indices) (env_of l.names) ≡ indices_of eval l.indices (env_of l.names)
