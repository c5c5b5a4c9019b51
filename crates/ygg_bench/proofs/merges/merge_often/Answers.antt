-- The test and the value stand in a bank that has grown as they stood before, and a word of 64 digits keeps the limits.
use Rattle.std.proofs.Common.{lit≤}
use Rattle.ygg_value.specs.declared.shape.Shape.TheVariants as shape
use Rattle.ygg_bank.proofs.Widths.{wider}
use Rattle.ygg_shape_cells.specs.declared.terms.SymValue.TheVariants.{Word}
use Rattle.ygg_shape_cells.proofs.Wider.{has_wider}
use Rattle.ygg_bench.proofs.merges.merge_often.Goals as goal

pub merge-requires-clause-values : goal.merge-requires-clause-values
merge-requires-clause-values g c = record {
  shape = shape.Word 64;
  limits = (lit≤ tt, lit≤ tt);
  one_has = c.loop-number.invariant.value;
  two_has = c.loop-number.invariant.value;
}

pub loop-number-preserved : goal.loop-number-preserved
loop-number-preserved g c = record {
  test = wider _ _ _ 1 c.merge.ensures.grows c.loop-number.invariant.test;
  value = has_wider _ _ (shape.Word 64) (Word c.args.word) c.merge.ensures.grows c.loop-number.invariant.value;
}
