use Rattle.std.proofs.Common.{drop, All}
use Rattle.ygg_sym_spec.specs.ygg_bank.Nodes.{Extends, IsBank}
use Rattle.ygg_sym_spec.specs.ygg_sym_runs.Seen.{known_of}
use Rattle.ygg_sym_spec.proofs.Left.{Left}
use Rattle.ygg_oblige_parts.specs.Digits.{IsDigit}
use Rattle.ygg_oblige_parts.specs.Formulas.{CanTest, digits_made}
use Rattle.ygg_oblige_parts.proofs.formulas.digits.Given as goal

-- the digits so far, and those that are left
abbrev pub invariant-loop-e : goal.invariant-loop-e
invariant-loop-e g l = record {
  went : Left (digits_made (g.B.Book.kinds l.book) (known_of l.evaluator) l.es l.fn.bank)
      (digits_made (g.B.Book.kinds l.book) (known_of l.evaluator) (drop l.e-index l.es) l.bank) l.ids.items;
  tests : All (CanTest (known_of l.evaluator) l.bank) (drop l.e-index l.es);
  digits : All (IsDigit l.bank) l.ids.items;
  grows : Extends l.fn.bank l.bank;
  bank : IsBank l.bank;
}
