use Rattle.std.proofs.Common.{◌≡◌, ◌++◌, drop, map}
use Rattle.ygg_print.specs.PrintedBlocks.{all_printed, stmt_printed}
use Rattle.ygg_print.proofs.blocks.+blocks.Given as goal

-- those so far and those of what is left
abbrev pub invariant-statements-loop-one : goal.invariant-statements-loop-one
invariant-statements-loop-one l = l.printer ++ all_printed (map stmt_printed (drop l.one-index l.statements)) ≡ l.initial.printer
    ++ all_printed (map stmt_printed l.statements)
