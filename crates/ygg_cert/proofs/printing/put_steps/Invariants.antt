use Rattle.std.proofs.Common.{◌≡◌, ◌++◌, drop}
use Rattle.std.specs.List.{flat_map}
use Rattle.ygg_cnf.specs.Lines.{step_line}
use Rattle.ygg_cert.proofs.printing.put_steps.Given as goal

-- what is there, and what is still to come
abbrev pub invariant-loop-step : goal.invariant-loop-step
invariant-loop-step l = l.out ++ flat_map step_line (drop l.step-index l.steps) ≡ l.initial.out ++ flat_map step_line l.steps
