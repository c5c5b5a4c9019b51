use Rattle.std.proofs.Common.{◌≡◌, ◌++◌, drop, map}
use Rattle.ygg_print.specs.PrintedBlocks.{all_printed}
use Rattle.ygg_print.specs.PrintedFiles.{operation_printed}
use Rattle.ygg_print.proofs.operations.operations.Given as goal

-- those so far and those of what is left
abbrev pub invariant-loop-one : goal.invariant-loop-one
invariant-loop-one l = l.printer ++ all_printed (map operation_printed (drop l.one-index l.all)) ≡ l.initial.printer
    ++ all_printed (map operation_printed l.all)
