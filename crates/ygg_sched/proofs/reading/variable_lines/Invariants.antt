use Rattle.std.proofs.Common.{◌≡◌, drop}
use Rattle.ygg_sched.specs.Lines.{left_of}
use Rattle.ygg_sched.specs.Reading.{variables_at}
use Rattle.ygg_sched.proofs.Onward.{with_values}
use Rattle.ygg_sched.proofs.reading.variable_lines.Given as goal

-- the values so far, and then those of the lines that are left
abbrev pub invariant-loop-variable : goal.invariant-loop-variable
invariant-loop-variable l =
    with_values l.values (variables_at l.word (drop l.variable-index l.declared) (left_of l.rest)) ≡ variables_at l.word l.declared (left_of l.at)
