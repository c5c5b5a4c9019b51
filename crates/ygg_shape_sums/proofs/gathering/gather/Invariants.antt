use Rattle.std.proofs.Common.{◌≡◌, ◌≤◌, ◌-◌, drop, length}
use Rattle.ygg_shape_sums.specs.Gathers.{gathered, gathered_sum}
use Rattle.ygg_shape_sums.specs.Parts.{PartsAlike}
use Rattle.ygg_shape_sums.specs.declared.gathering.TheConstants.{READ_LIMIT}
use Rattle.ygg_shape_sums.proofs.gathering.gather.Given as goal

abbrev pub invariant-loop-place : goal.invariant-loop-place
invariant-loop-place l = record {
  went : gathered (READ_LIMIT - l.place) l.bank l.facts (drop l.place l.todo.items) l.sum ≡ gathered_sum l.bank l.facts l.total;
  alike : PartsAlike l.bank l.todo.items;
  within : l.place ≤ length l.todo.items;
}
