use Rattle.std.proofs.Common.{◌≡◌}
use Rattle.ygg_eval_expr.specs.Words.{row_from}
use Rattle.ygg_eval_expr.proofs.Rows.{written}
use Rattle.ygg_eval_expr.proofs.made.row.Given as goal

-- the first words are written, and the others are 0
abbrev pub invariant-loop-i : goal.invariant-loop-i
invariant-loop-i l = l.row ≡ record { width = (row_from l.words).width; words = written l.words l.i }
