use Rattle.std.proofs.Common.{◌≡◌, ◌++◌, drop, map}
use Rattle.ygg_print.specs.PrintedBlocks.{all_printed}
use Rattle.ygg_print.specs.PrintedFiles.{claim_printed}
use Rattle.ygg_print.proofs.files.claims_after.Given as goal

-- those so far and those of what is left
abbrev pub invariant-loop-e : goal.invariant-loop-e
invariant-loop-e l = l.printer ++ all_printed (map (claim_printed l.keyword) (drop l.e-index l.all)) ≡ l.initial.printer
    ++ all_printed (map (claim_printed l.keyword) l.all)
