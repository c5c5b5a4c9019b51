use Rattle.std.proofs.Common.{List, refl, sym, subst}
use Rattle.std.proofs.lemmas.List.{drop_all}
use Rattle.ygg_syntax.specs.declared.tree.Declared.{Declared}
use Rattle.ygg_sym_spec.specs.declared.SymValue.{SymValue}
use Rattle.ygg_oblige_laws.specs.TermStates.{fresh_all}
use Rattle.ygg_sym_spec.proofs.Left.{Left, left_begun, left_value}
use Rattle.ygg_sym_spec.specs.ygg_bank_proofs_Widths.{extends_both, extends_self}
use Rattle.ygg_oblige_parts.proofs.names.fresh_by.Goals as goal

pub returns-in_err-value-clause-grows : goal.returns-in_err-value-clause-grows
returns-in_err-value-clause-grows g c =
    extends_both c.args.bank.now c.loop-variable.bank c.inputs_of.new.bank c.loop-variable.invariant.grows c.inputs_of.ensures.grows

pub returns-in_err-push-clause-grows : goal.returns-in_err-push-clause-grows
returns-in_err-push-clause-grows g c =
    extends_both c.args.bank.now c.loop-variable.bank c.inputs_of.new.bank c.loop-variable.invariant.grows c.inputs_of.ensures.grows

pub loop-variable-init : goal.loop-variable-init
loop-variable-init g c =
    let whole = fresh_all (g.B.Book.kinds c.args.book.now) c.args.number c.args.declared.now c.args.bank.now in
    record {
      went = subst (λ (z : List SymValue). Left whole whole z) (sym c.new-values.ensures) (left_begun whole);
      count = refl;
      kept = c.requires.kept;
      below = c.requires.below;
      grows = extends_self c.args.bank.now;
      bank = c.requires.bank;
    }

pub returns-clause-nodes : goal.returns-clause-nodes
returns-clause-nodes g c =
    let kinds = g.B.Book.kinds c.args.book.now in
    let whole = fresh_all kinds c.args.number c.args.declared.now c.args.bank.now in
    let ended = subst (λ (z : List Declared). Left whole (fresh_all kinds c.loop-variable.next z c.loop-variable.bank) c.loop-variable.values)
    (drop_all c.loop-variable.variable-index c.args.declared.now c.loop-variable-test.false) c.loop-variable.invariant.went in
    ended.nodes

pub returns-clause-form : goal.returns-clause-form
returns-clause-form g c =
    let kinds = g.B.Book.kinds c.args.book.now in
    let whole = fresh_all kinds c.args.number c.args.declared.now c.args.bank.now in
    left_value whole c.loop-variable.values c.loop-variable.bank
    (subst (λ (z : List Declared). Left whole (fresh_all kinds c.loop-variable.next z c.loop-variable.bank) c.loop-variable.values)
    (drop_all c.loop-variable.variable-index c.args.declared.now c.loop-variable-test.false) c.loop-variable.invariant.went)
