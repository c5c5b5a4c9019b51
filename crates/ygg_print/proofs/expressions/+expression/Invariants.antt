use Rattle.std.proofs.Common.{◌≡◌, ◌++◌, drop, map}
use Rattle.ygg_print.specs.Printed.{printed, more_printed}
use Rattle.ygg_print.proofs.expressions.+expression.Given as goal

-- those so far and those of what is left
abbrev pub invariant-list-loop-place : goal.invariant-list-loop-place
invariant-list-loop-place l = l.printer ++ more_printed (map printed (drop l.place l.expressions)) ≡ l.initial.printer
    ++ more_printed (map printed (drop 1 l.expressions))
