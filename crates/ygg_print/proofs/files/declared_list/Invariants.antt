use Rattle.std.proofs.Common.{◌≡◌, ◌++◌, drop, map}
use Rattle.ygg_print.specs.Printed.{more_printed}
use Rattle.ygg_print.specs.PrintedFiles.{declared_printed}
use Rattle.ygg_print.proofs.files.declared_list.Given as goal

-- those so far and those of what is left
abbrev pub invariant-loop-place : goal.invariant-loop-place
invariant-loop-place l = l.printer ++ more_printed (map declared_printed (drop l.place l.all)) ≡ l.initial.printer
    ++ more_printed (map declared_printed (drop 1 l.all))
