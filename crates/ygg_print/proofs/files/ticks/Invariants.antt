use Rattle.std.proofs.Common.{◌≡◌, ◌++◌, drop, map}
use Rattle.ygg_print.specs.PrintedBlocks.{all_printed}
use Rattle.ygg_print.specs.PrintedFiles.{tick_printed}
use Rattle.ygg_print.proofs.files.ticks.Given as goal

-- those so far and those of what is left
abbrev pub invariant-loop-one : goal.invariant-loop-one
invariant-loop-one l = l.printer ++ all_printed (map tick_printed (drop l.one-index l.all)) ≡ l.initial.printer ++ all_printed (map tick_printed l.all)
