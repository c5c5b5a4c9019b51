use Rattle.std.proofs.Common.{◌≡◌, ◌++◌, drop, map}
use Rattle.ygg_print.specs.PrintedBlocks.{all_printed}
use Rattle.ygg_print.specs.PrintedFiles.{variable_printed}
use Rattle.ygg_print.proofs.files.variables.Given as goal

-- those so far and those of what is left
abbrev pub invariant-loop-one : goal.invariant-loop-one
invariant-loop-one l = l.printer ++ all_printed (map (variable_printed l.keyword) (drop l.one-index l.all)) ≡ l.initial.printer
    ++ all_printed (map (variable_printed l.keyword) l.all)
