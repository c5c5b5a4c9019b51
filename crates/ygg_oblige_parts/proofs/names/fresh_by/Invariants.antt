use Rattle.std.proofs.Common.{◌≡◌, ◌+◌, drop}
use Rattle.ygg_sym_spec.specs.ygg_bank.Inputs.{InputsBelow}
use Rattle.ygg_sym_spec.specs.ygg_bank.Nodes.{Extends, IsBank}
use Rattle.ygg_oblige_laws.specs.LayerTerms.{ShapesKept}
use Rattle.ygg_oblige_laws.specs.TermStates.{fresh_all, words_in}
use Rattle.ygg_sym_spec.proofs.Left.{Left}
use Rattle.ygg_oblige_parts.proofs.names.fresh_by.Given as goal

-- the inputs so far, and those that are left
abbrev pub invariant-loop-variable : goal.invariant-loop-variable
invariant-loop-variable g l = record {
  went : Left (fresh_all (g.B.Book.kinds l.book) l.number l.declared l.fn.bank)
      (fresh_all (g.B.Book.kinds l.book) l.next (drop l.variable-index l.declared) l.bank) l.values;
  count : l.next + words_in (drop l.variable-index l.declared) ≡ l.number + words_in l.declared;
  kept : ShapesKept (drop l.variable-index l.declared);
  below : InputsBelow l.next l.bank;
  grows : Extends l.fn.bank l.bank;
  bank : IsBank l.bank;
}
