use Rattle.std.proofs.Common.{◌≡◌, ◌++◌, take}
use Rattle.ygg_eval_expr.specs.Held.{env_of}
use Rattle.ygg_eval.specs.Ending.{values_in}
use Rattle.ygg_eval.proofs.ending.give_back.Given as goal

-- those so far, and then what is left
abbrev pub invariant-loop-binding : goal.invariant-loop-binding
invariant-loop-binding l = l.values ++ values_in (env_of l.binding-iterator.rest.items) ≡ values_in (take l.count (env_of l.fn.names.items))
