use Rattle.std.proofs.Common.{◌≡◌, ◌≤◌, ◌-◌, drop, map, sum}
use Rattle.ygg_syntax.specs.Choices.{stmt_steps}
use Rattle.ygg_syntax.proofs.steps.+steps.Given as goal

-- what is left takes the rest
abbrev pub invariant-statements-loop-one : goal.invariant-statements-loop-one
invariant-statements-loop-one l = record {
  same : l.rest - sum (map (stmt_steps l.choice l.call) (drop l.one-index l.statements)) ≡ l.left - sum (map (stmt_steps l.choice l.call) l.statements);
  within : l.rest ≤ l.left;
}
