use Rattle.std.proofs.Common.{ℕ, ◌+◌, All, sym, subst, refl}
use Rattle.std.proofs.lemmas.List.Elements.{All-nil}
use Rattle.std.proofs.lemmas.Result.{IfOk-from_err}
use Rattle.ygg_shape_words.specs.ygg_bank_proofs_Widths.{extends_both, extends_self}
use Rattle.ygg_shape_words.specs.ygg_bank.declared.node.Id.{Id}
use Rattle.ygg_shape_words.specs.Giving.{given}
use Rattle.ygg_shape_cells.proofs.Pruned.{pruned_more, stands_more, shape_of}
use Rattle.ygg_shape_cells.proofs.Steps.{EachFrom, each_from_goes, each_from_begins, each_from_nodes, each_from_value}
use Rattle.ygg_shape_cells.proofs.Wider.{IsWide}
use Rattle.ygg_shape_cells.proofs.pruning.given_row.Goals as goal

pub given-requires-clause-test : goal.given-requires-clause-test
given-requires-clause-test g c = stands_more c.args.bank.now c.loop-number.bank c.args.test c.loop-number.invariant.grows c.requires.test

pub given-requires-clause-word : goal.given-requires-clause-word
given-requires-clause-word g c =
    stands_more c.args.bank.now c.loop-number.bank _ c.loop-number.invariant.grows (c.requires.row c.loop-number.number _ c.loop-number-test.true)

pub returns-in_err-word-clause-grows : goal.returns-in_err-word-clause-grows
returns-in_err-word-clause-grows g c =
    extends_both c.args.bank.now c.loop-number.bank c.given.new.bank c.loop-number.invariant.grows c.given.ensures.grows

pub returns-in_err-push-clause-grows : goal.returns-in_err-push-clause-grows
returns-in_err-push-clause-grows g c =
    extends_both c.args.bank.now c.loop-number.bank c.given.new.bank c.loop-number.invariant.grows c.given.ensures.grows

pub loop-number-preserved : goal.loop-number-preserved
loop-number-preserved g c =
    let step = λ (number : ℕ) (a : Id). given (g.B.Book.kinds c.args.book.now) c.args.test c.args.value a in
    let old = c.args.bank.now in
    let now = c.loop-number.bank in
    let next = c.given.new.bank in
    let number = c.loop-number.number in
    record {
      went = subst (λ z. EachFrom step c.args.row.now old (number + 1) z next) (sym c.in_ok-push.ensures.ok)
          (each_from_goes step c.args.row.now old number c.loop-number.pruned now _ _ c.in_ok-word.word next c.loop-number-test.true refl
          c.in_ok-word.ensures.nodes c.in_ok-word.ensures.form c.loop-number.invariant.went);
      wide = λ w h. subst (All (IsWide next w)) (sym c.in_ok-push.ensures.ok)
          (pruned_more now next w c.loop-number.pruned _ c.in_ok-word.word _ number c.args.row.now old c.loop-number.invariant.grows c.given.ensures.grows refl
          c.loop-number-test.true c.in_ok-word.ensures.width h (c.loop-number.invariant.wide w h));
      grows = extends_both old now next c.loop-number.invariant.grows c.given.ensures.grows;
      bank = c.given.ensures.bank;
    }

pub loop-number-init : goal.loop-number-init
loop-number-init g c =
    let step = λ (number : ℕ) (a : Id). given (g.B.Book.kinds c.args.book.now) c.args.test c.args.value a in
    let old = c.args.bank.now in
    record {
      went = subst (λ z. EachFrom step c.args.row.now old 0 z old) (sym c.new-pruned.ensures) (each_from_begins step c.args.row.now old);
      wide = λ w h. subst (All (IsWide old w)) (sym c.new-pruned.ensures) (All-nil (IsWide old w));
      grows = extends_self old;
      bank = c.requires.bank;
    }

pub returns-clause-nodes : goal.returns-clause-nodes
returns-clause-nodes g c =
    let step = λ (number : ℕ) (a : Id). given (g.B.Book.kinds c.args.book.now) c.args.test c.args.value a in
    each_from_nodes step c.args.row.now c.args.bank.now c.loop-number.number c.loop-number.pruned c.loop-number.bank c.loop-number-test.false
    c.loop-number.invariant.went

pub returns-clause-form : goal.returns-clause-form
returns-clause-form g c =
    let step = λ (number : ℕ) (a : Id). given (g.B.Book.kinds c.args.book.now) c.args.test c.args.value a in
    each_from_value step c.args.row.now c.args.bank.now c.loop-number.number c.loop-number.pruned c.loop-number.bank c.loop-number-test.false
    c.loop-number.invariant.went

pub returns-clause-shape : goal.returns-clause-shape
returns-clause-shape g c = λ n w h.
    shape_of (λ (number : ℕ) (a : Id). given (g.B.Book.kinds c.args.book.now) c.args.test c.args.value a) n w c.args.row.now c.args.bank.now
    c.loop-number.number c.loop-number.pruned c.loop-number.bank c.loop-number-test.false c.loop-number.invariant.went h
    (c.loop-number.invariant.wide w h.wide)

pub returns-in_err-word-clause-nodes : goal.returns-in_err-word-clause-nodes
returns-in_err-word-clause-nodes g c = IfOk-from_err c.from_residual.result _ c.from_residual.ensures.0

pub returns-in_err-word-clause-form : goal.returns-in_err-word-clause-form
returns-in_err-word-clause-form g c = IfOk-from_err c.from_residual.result _ c.from_residual.ensures.0

pub returns-in_err-word-clause-shape : goal.returns-in_err-word-clause-shape
returns-in_err-word-clause-shape g c = λ n w h. IfOk-from_err c.from_residual.result _ c.from_residual.ensures.0

pub returns-in_err-push-clause-nodes : goal.returns-in_err-push-clause-nodes
returns-in_err-push-clause-nodes g c = IfOk-from_err c.from_residual-in_err-push.result _ c.from_residual-in_err-push.ensures.0

pub returns-in_err-push-clause-form : goal.returns-in_err-push-clause-form
returns-in_err-push-clause-form g c = IfOk-from_err c.from_residual-in_err-push.result _ c.from_residual-in_err-push.ensures.0

pub returns-in_err-push-clause-shape : goal.returns-in_err-push-clause-shape
returns-in_err-push-clause-shape g c = λ n w h. IfOk-from_err c.from_residual-in_err-push.result _ c.from_residual-in_err-push.ensures.0
