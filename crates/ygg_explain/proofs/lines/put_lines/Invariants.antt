use Rattle.std.proofs.Common.{◌≡◌, ◌++◌, drop}
use Rattle.ygg_eval_expr.specs.Held.{env_of}
use Rattle.ygg_explain.specs.Lines.{env_lines}
use Rattle.ygg_explain.proofs.lines.put_lines.Given as goal

-- what is written so far, and then the lines of what is left
abbrev pub invariant-loop-variable : goal.invariant-loop-variable
invariant-loop-variable l =
    l.out ++ env_lines l.word (env_of (drop l.variable-index l.variables)) ≡ l.initial.out ++ env_lines l.word (env_of l.variables)
