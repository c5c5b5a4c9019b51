use Rattle.std.proofs.Common.{◌≡◌, ◌++◌, drop}
use Rattle.ygg_sched.specs.Printing.{variable_lines}
use Rattle.ygg_sched.proofs.printing.put_variables.Given as goal

-- what is written so far, and then the lines of what is left
abbrev pub invariant-loop-place : goal.invariant-loop-place
invariant-loop-place l =
    l.out ++ variable_lines l.word (drop l.place l.declared) (drop l.place l.values) ≡ l.initial.out ++ variable_lines l.word l.declared l.values
