use Rattle.std.proofs.Common.{◌≡◌, ◌++◌, drop}
use Rattle.ygg_print.specs.PrintedBlocks.{indices_printed}
use Rattle.ygg_print.proofs.blocks.indices.Given as goal

-- those so far and those of what is left
abbrev pub invariant-loop-index : goal.invariant-loop-index
invariant-loop-index l = l.printer ++ indices_printed (drop l.index-index l.indices) ≡ l.initial.printer ++ indices_printed l.indices
