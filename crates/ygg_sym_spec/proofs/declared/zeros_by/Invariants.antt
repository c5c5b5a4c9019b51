use Rattle.std.proofs.Common.{drop}
use Rattle.ygg_sym_spec.specs.ygg_bank.Nodes.{Extends, IsBank}
use Rattle.ygg_sym_runs.specs.Below.{zeros_made}
use Rattle.ygg_sym_spec.specs.Kept.{AreKept}
use Rattle.ygg_sym_spec.proofs.Left.{Left}
use Rattle.ygg_sym_spec.proofs.declared.zeros_by.Given as goal

-- the zeros so far, and those that are left
abbrev pub invariant-loop-variable : goal.invariant-loop-variable
invariant-loop-variable g l = record {
  went : Left (zeros_made (g.B.Book.kinds l.book) l.declared l.fn.bank) (zeros_made (g.B.Book.kinds l.book) (drop l.variable-index l.declared) l.bank) l.values;
  kept : AreKept (drop l.variable-index l.declared);
  grows : Extends l.fn.bank l.bank;
  bank : IsBank l.bank;
}
