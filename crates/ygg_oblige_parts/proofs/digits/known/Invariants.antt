use Rattle.std.proofs.Common.{◌≡◌, ◌≤◌, length, drop}
use Rattle.ygg_sym_spec.specs.ygg_bank.Nodes.{Extends, HasWidth, IsBank}
use Rattle.ygg_oblige_laws.specs.ygg_shape.Replacing.{AreFit}
use Rattle.ygg_oblige_laws.specs.TermStates.{known_made}
use Rattle.ygg_oblige_parts.proofs.digits.known.Given as goal

-- the conjunction of those that were joined
abbrev pub invariant-loop-left : goal.invariant-loop-left
invariant-loop-left g l = record {
  nodes : l.bank ≡ (known_made (g.B.Book.kinds l.book) (drop l.left l.items) l.fn.bank).nodes;
  value : l.known ≡ (known_made (g.B.Book.kinds l.book) (drop l.left l.items) l.fn.bank).value;
  left : l.left ≤ length l.items;
  wide : HasWidth l.bank l.known 1;
  fit : AreFit l.bank l.items;
  grows : Extends l.fn.bank l.bank;
  bank : IsBank l.bank;
}

abbrev pub decreases-loop-left : goal.decreases-loop-left
decreases-loop-left g l = l.left
