use Rattle.std.proofs.Common.{◌+◌, List, drop, subst, sym, ◌≡◌}
use Rattle.ygg_sym_runs.specs.ygg_bank_proofs_Widths.{extends_both, extends_self}
use Rattle.ygg_sym_spec.specs.ygg_shape.Wholes.{zero_made}
use Rattle.ygg_sym_spec.specs.ygg_shape_cells.declared.terms.SymValue.{SymValue}
use Rattle.ygg_sym_runs.specs.Below.{zeros_made}
use Rattle.ygg_sym_spec.proofs.Left.{Left, left_begun, left_value}
use Rattle.ygg_sym_spec.proofs.ZerosMade.{kept_more, zeros_end, zeros_go}
use Rattle.ygg_sym_spec.proofs.declared.zeros_by.Goals as goal

pub loop-variable-init : goal.loop-variable-init
loop-variable-init g c =
    let all = zeros_made (g.B.Book.kinds c.args.book.now) c.args.declared.now c.args.bank.now in
    record {
      went = subst (λ (z : List SymValue). Left all all z) (sym c.new-values.ensures) (left_begun all);
      kept = c.requires.kept;
      grows = extends_self c.args.bank.now;
      bank = c.requires.bank;
    }

pub loop-variable-preserved : goal.loop-variable-preserved
loop-variable-preserved g c =
    let kinds = g.B.Book.kinds c.args.book.now in
    let ds = c.args.declared.now in
    let i = c.loop-variable.variable-index in
    let d = c.variable-item.result in
    let now = c.loop-variable.bank in
    record {
      went = subst (λ (z : List SymValue). Left (zeros_made kinds ds c.args.bank.now) (zeros_made kinds (drop (i + 1) ds) c.zero.new.bank) z)
          (sym c.in_ok-push.ensures.ok)
          (zeros_go kinds ds c.args.bank.now now i c.loop-variable.values d d c.in_ok-value.value c.zero.new.bank c.loop-variable-test.true c.variable-item.is
          (subst (λ s. c.zero.new.bank ≡ (zero_made kinds s now).nodes) c.shape_of.ensures c.in_ok-value.ensures.nodes)
          (subst (λ s. c.in_ok-value.value ≡ (zero_made kinds s now).value) c.shape_of.ensures c.in_ok-value.ensures.form)
          (c.loop-variable.invariant).went);
      kept = kept_more ds i d d c.loop-variable-test.true c.variable-item.is (c.loop-variable.invariant).kept;
      grows = extends_both c.args.bank.now now c.zero.new.bank (c.loop-variable.invariant).grows c.zero.ensures.grows;
      bank = c.zero.ensures.bank;
    }

pub returns-in_err-push-clause-grows : goal.returns-in_err-push-clause-grows
returns-in_err-push-clause-grows g c =
    extends_both c.args.bank.now c.loop-variable.bank c.zero.new.bank (c.loop-variable.invariant).grows c.zero.ensures.grows

pub returns-in_err-value-clause-grows : goal.returns-in_err-value-clause-grows
returns-in_err-value-clause-grows g c =
    extends_both c.args.bank.now c.loop-variable.bank c.zero.new.bank (c.loop-variable.invariant).grows c.zero.ensures.grows

pub returns-clause-form : goal.returns-clause-form
returns-clause-form g c =
    let kinds = g.B.Book.kinds c.args.book.now in
    let ds = c.args.declared.now in
    left_value (zeros_made kinds ds c.args.bank.now) c.loop-variable.values c.loop-variable.bank
    (zeros_end kinds ds c.args.bank.now c.loop-variable.bank c.loop-variable.variable-index c.loop-variable.values c.loop-variable-test.false
    (c.loop-variable.invariant).went)

pub returns-clause-nodes : goal.returns-clause-nodes
returns-clause-nodes g c =
    let kinds = g.B.Book.kinds c.args.book.now in
    let ds = c.args.declared.now in
    (zeros_end kinds ds c.args.bank.now c.loop-variable.bank c.loop-variable.variable-index c.loop-variable.values c.loop-variable-test.false
    (c.loop-variable.invariant).went).nodes
