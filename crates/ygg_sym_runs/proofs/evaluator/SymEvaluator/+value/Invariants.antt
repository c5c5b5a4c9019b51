use Rattle.std.proofs.Common.{◌≡◌, ◌≤◌, ◌+◌, ◌*◌, drop}
use Rattle.ygg_eval_expr.specs.ygg_syntax.Weights.{weights_of, weight_at, expr_weight, exprs_weight}
use Rattle.ygg_shape.specs.ygg_bank.Nodes.{Extends, HasWidth, IsBank}
use Rattle.ygg_sym_runs.specs.Exprs.{joined, sym_value}
use Rattle.ygg_sym_runs.specs.Seen.{known_of, joining, start_of, terms_called, test_at}
use Rattle.ygg_shape.proofs.Steps.{EachFrom}
use Rattle.ygg_sym_runs.proofs.evaluator.SymEvaluator.+value.Given as goal

abbrev pub decreases-called : goal.decreases-called
decreases-called g l = 4 * weight_at (weights_of l.self.now.defs.now) l.name.now + 1

abbrev pub decreases-quantified : goal.decreases-quantified
decreases-quantified g l = 4 * expr_weight (weights_of l.self.now.defs.now) l.e.now + 3

abbrev pub decreases-test_at : goal.decreases-test_at
decreases-test_at g l = 4 * expr_weight (weights_of l.self.now.defs.now) l.e.now + 2

abbrev pub decreases-value_by : goal.decreases-value_by
decreases-value_by g l = 4 * expr_weight (weights_of l.self.now.defs.now) l.e.now

abbrev pub decreases-values : goal.decreases-values
decreases-values g l = 4 * exprs_weight (weights_of l.self.now.defs.now) l.es.now + 1

-- what the tests so far are joined to
abbrev pub invariant-quantified-loop-i : goal.invariant-quantified-loop-i
invariant-quantified-loop-i g l = record {
  nodes : l.bank ≡ (joined (g.B.Book.kinds l.book) (joining l.fn.which) (start_of l.fn.which) l.i
      (test_at (g.B.Book.kinds l.book) (known_of l.self) l.x l.w l.e) l.fn.bank).nodes;
  value : l.all ≡ (joined (g.B.Book.kinds l.book) (joining l.fn.which) (start_of l.fn.which) l.i
      (test_at (g.B.Book.kinds l.book) (known_of l.self) l.x l.w l.e) l.fn.bank).value;
  joins : l.op ≡ joining l.fn.which;
  grows : Extends l.fn.bank l.bank;
  wide : HasWidth l.bank l.all 1;
  bank : IsBank l.bank;
}

-- what was made so far and what is left
abbrev pub invariant-values-loop-e : goal.invariant-values-loop-e
invariant-values-loop-e g l = record {
  went : EachFrom (λ n e. sym_value (g.B.Book.kinds l.book) (terms_called (g.B.Book.kinds l.book) l.self.defs.now) e (known_of l.self).scope)
      l.es l.fn.bank l.e-index l.values.items l.bank;
  grows : Extends l.fn.bank l.bank;
  bank : IsBank l.bank;
  part : exprs_weight (weights_of l.self.defs.now) (drop l.e-index l.es) ≤ exprs_weight (weights_of l.self.defs.now) l.es;
}
