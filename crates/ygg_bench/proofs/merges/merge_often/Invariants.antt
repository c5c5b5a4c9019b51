use Rattle.ygg_value.specs.declared.shape.Shape.TheVariants as shape
use Rattle.ygg_bank.specs.Nodes.{HasWidth}
use Rattle.ygg_shape_cells.specs.Terms.{HasShape}
use Rattle.ygg_bench.proofs.merges.merge_often.Given as goal

abbrev pub invariant-loop-number : goal.invariant-loop-number
invariant-loop-number g l = record { test : HasWidth l.bank l.test 1; value : HasShape l.bank (shape.Word 64) l.value }
