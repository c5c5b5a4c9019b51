use Rattle.std.proofs.Common.{◌≡◌, ◌≤◌, length, drop, All}
use Rattle.ygg_sym_spec.specs.ygg_bank.Nodes.{Extends, HasWidth, IsBank}
use Rattle.ygg_oblige_parts.specs.Digits.{IsDigit, conjunction}
use Rattle.ygg_oblige_parts.proofs.digits.all.Given as goal

-- the conjunction of those that were joined
abbrev pub invariant-loop-left : goal.invariant-loop-left
invariant-loop-left g l = record {
  nodes : l.bank ≡ (conjunction (g.B.Book.kinds l.book) (drop l.left l.digits) l.fn.bank).nodes;
  value : l.all ≡ (conjunction (g.B.Book.kinds l.book) (drop l.left l.digits) l.fn.bank).value;
  left : l.left ≤ length l.digits;
  wide : HasWidth l.bank l.all 1;
  digits : All (IsDigit l.bank) l.digits;
  grows : Extends l.fn.bank l.bank;
  bank : IsBank l.bank;
}

abbrev pub decreases-loop-left : goal.decreases-loop-left
decreases-loop-left g l = l.left
