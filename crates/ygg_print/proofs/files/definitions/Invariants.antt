use Rattle.std.proofs.Common.{◌≡◌, ◌++◌, drop, map}
use Rattle.ygg_print.specs.PrintedBlocks.{all_printed}
use Rattle.ygg_print.specs.PrintedFiles.{definition_printed}
use Rattle.ygg_print.proofs.files.definitions.Given as goal

-- those so far and those of what is left
abbrev pub invariant-loop-def : goal.invariant-loop-def
invariant-loop-def l = l.printer ++ all_printed (map definition_printed (drop l.def-index l.defs)) ≡ l.initial.printer
    ++ all_printed (map definition_printed l.defs)
