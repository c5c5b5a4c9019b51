use Rattle.std.proofs.Common.{◌+◌, List, All, drop, sym, subst, arith}
use Rattle.ygg_sym_spec.specs.ygg_bank_proofs_Widths.{extends_both, extends_self}
use Rattle.ygg_sym_spec.specs.ygg_bank.declared.node.Id.{Id}
use Rattle.ygg_sym_spec.specs.ygg_sym_runs.Seen.{known_of}
use Rattle.std.proofs.lemmas.List.{drop_all}
use Rattle.ygg_syntax.specs.declared.tree.Expr.{Expr}
use Rattle.ygg_sym_spec.proofs.Left.{Left, left_begun, left_value}
use Rattle.ygg_oblige_parts.specs.Digits.{IsDigit}
use Rattle.ygg_oblige_parts.specs.Formulas.{digits_made}
use Rattle.ygg_oblige_parts.proofs.Tested.{digits_go, digits_more, test_next, tests_next}
use Rattle.ygg_oblige_parts.proofs.formulas.digits.Goals as goal

pub digit-requires : goal.digit-requires
digit-requires g c =
    test_next (known_of c.args.evaluator.now) c.loop-e.bank c.args.es.now c.loop-e.e-index c.e-item.result _ c.loop-e-test.true c.e-item.is
    c.loop-e.invariant.tests

pub loop-e-preserved : goal.loop-e-preserved
loop-e-preserved g c =
    let kinds = g.B.Book.kinds c.args.book.now in
    let k = known_of c.args.evaluator.now in
    let es = c.args.es.now in
    let old = c.args.bank.now in
    let i = c.loop-e.e-index in
    let new = c.digit.new.bank in
    record {
      went = subst (λ (z : List Id). Left (digits_made kinds k es old) (digits_made kinds k (drop (i + 1) es) new) z) (sym c.in_ok-push.ensures.items)
          (digits_go kinds k es old c.loop-e.bank i c.loop-e.ids.items c.e-item.result _ c.in_ok-id.id new c.loop-e-test.true c.e-item.is
          c.in_ok-id.ensures.nodes c.in_ok-id.ensures.form c.loop-e.invariant.went);
      tests = tests_next k c.loop-e.bank new es i c.e-item.result _ c.loop-e-test.true c.e-item.is c.digit.ensures.grows c.loop-e.invariant.tests;
      digits = subst (λ (z : List Id). All (IsDigit new) z) (sym c.in_ok-push.ensures.items)
          (digits_more c.loop-e.bank new c.loop-e.ids.items c.in_ok-id.id c.digit.ensures.grows c.loop-e.invariant.digits c.in_ok-id.ensures.width);
      grows = extends_both old c.loop-e.bank new c.loop-e.invariant.grows c.digit.ensures.grows;
      bank = c.digit.ensures.bank;
    }

pub returns-in_err-id-clause-grows : goal.returns-in_err-id-clause-grows
returns-in_err-id-clause-grows g c = extends_both c.args.bank.now c.loop-e.bank c.digit.new.bank c.loop-e.invariant.grows c.digit.ensures.grows

pub returns-in_err-push-clause-grows : goal.returns-in_err-push-clause-grows
returns-in_err-push-clause-grows g c = extends_both c.args.bank.now c.loop-e.bank c.digit.new.bank c.loop-e.invariant.grows c.digit.ensures.grows

pub loop-e-init : goal.loop-e-init
loop-e-init g c =
    let whole = digits_made (g.B.Book.kinds c.args.book.now) (known_of c.args.evaluator.now) c.args.es.now c.args.bank.now in
    record {
      went = subst (λ (z : List Id). Left whole whole z) (sym c.new-ids.ensures.items) (left_begun whole);
      tests = c.requires.tests;
      digits = subst (λ (z : List Id). All (IsDigit c.args.bank.now) z) (sym c.new-ids.ensures.items) (λ k d l. absurd (omega (arith, l)));
      grows = extends_self c.args.bank.now;
      bank = c.requires.bank;
    }

pub returns-clause-nodes : goal.returns-clause-nodes
returns-clause-nodes g c =
    let kinds = g.B.Book.kinds c.args.book.now in
    let k = known_of c.args.evaluator.now in
    let es = c.args.es.now in
    let whole = digits_made kinds k es c.args.bank.now in
    let none = drop_all c.loop-e.e-index es c.loop-e-test.false in
    let ended = subst (λ (z : List Expr). Left whole (digits_made kinds k z c.loop-e.bank) c.loop-e.ids.items) none c.loop-e.invariant.went in
    ended.nodes

pub returns-clause-form : goal.returns-clause-form
returns-clause-form g c =
    let kinds = g.B.Book.kinds c.args.book.now in
    let k = known_of c.args.evaluator.now in
    let es = c.args.es.now in
    let whole = digits_made kinds k es c.args.bank.now in
    left_value whole c.loop-e.ids.items c.loop-e.bank
    (subst (λ (z : List Expr). Left whole (digits_made kinds k z c.loop-e.bank) c.loop-e.ids.items) (drop_all c.loop-e.e-index es c.loop-e-test.false)
    c.loop-e.invariant.went)

pub returns-clause-digits : goal.returns-clause-digits
returns-clause-digits g c = c.loop-e.invariant.digits
