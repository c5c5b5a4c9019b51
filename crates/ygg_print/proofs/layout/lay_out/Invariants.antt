use Rattle.std.proofs.Common.{◌≡◌, ◌++◌, ◌+◌, ◌≤◌, length}
use Rattle.std.specs.Prelude.{option_copied}
use Rattle.ygg_print.specs.Layout.{layout, layout_from}
use Rattle.ygg_print.proofs.layout.lay_out.Given as goal

-- what is written and what is left are the whole
abbrev pub invariant-loop-this : goal.invariant-loop-this
invariant-loop-this l = record {
  text : l.text ++ layout_from l.depth (option_copied l.previous) l.others ≡ layout l.marks;
  bound : l.depth + length l.others ≤ length l.marks;
}

abbrev pub decreases-loop-this : goal.decreases-loop-this
decreases-loop-this l = length l.others
