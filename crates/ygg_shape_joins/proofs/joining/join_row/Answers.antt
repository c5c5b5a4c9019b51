use Rattle.std.proofs.Common.{◌+◌, ◌<◌, length, refl, sym, subst, arith}
use Rattle.ygg_shape_words.specs.ygg_bank_proofs_Widths.{extends_both, extends_self}
use Rattle.ygg_shape_joins.specs.Joining.{joined_word}
use Rattle.ygg_shape_cells.proofs.Steps.{EachTwo, each_two_goes, each_two_begins, each_two_nodes, each_two_value}
use Rattle.ygg_shape_cells.proofs.Wider.{pick_at}
use Rattle.std.proofs.lemmas.Result.{IfOk-from_err}
use Rattle.ygg_shape_joins.proofs.joining.join_row.Goals as goal

pub join_word-requires-clause-pick : goal.join_word-requires-clause-pick
join_word-requires-clause-pick g c =
    pick_at c.args.bank.now c.loop-place.bank c.args.test c.args.yes.now c.args.no.now c.loop-place.place _ c.loop-place.invariant.grows
    c.requires.test c.requires.rows c.loop-place-test.true

pub returns-in_err-word-clause-grows : goal.returns-in_err-word-clause-grows
returns-in_err-word-clause-grows g c =
    extends_both c.args.bank.now c.loop-place.bank c.join_word.new.bank c.loop-place.invariant.grows c.join_word.ensures.grows

pub returns-in_err-push-clause-grows : goal.returns-in_err-push-clause-grows
returns-in_err-push-clause-grows g c =
    extends_both c.args.bank.now c.loop-place.bank c.join_word.new.bank c.loop-place.invariant.grows c.join_word.ensures.grows

pub loop-place-preserved : goal.loop-place-preserved
loop-place-preserved g c =
    let h = c.requires.rows in let one = h.one_is in let two = h.two_is in
    let step = joined_word (g.B.Book.kinds c.args.book.now) c.args.test in
    let q : c.loop-place.place < length c.args.no.now = omega (arith, one.count, two.count, c.loop-place-test.true) in
    record {
      went = subst (λ z. EachTwo step c.args.yes.now c.args.no.now c.args.bank.now (c.loop-place.place + 1) z c.join_word.new.bank) (sym c.in_ok-push.ensures.ok)
          (each_two_goes step c.args.yes.now c.args.no.now c.args.bank.now c.loop-place.place c.loop-place.row c.loop-place.bank _ _ _ _
          c.in_ok-word.word c.join_word.new.bank c.loop-place-test.true q refl refl
          c.in_ok-word.ensures.nodes c.in_ok-word.ensures.form c.loop-place.invariant.went);
      grows = extends_both c.args.bank.now c.loop-place.bank c.join_word.new.bank c.loop-place.invariant.grows c.join_word.ensures.grows;
      bank = c.join_word.ensures.bank;
    }

pub loop-place-init : goal.loop-place-init
loop-place-init g c =
    let step = joined_word (g.B.Book.kinds c.args.book.now) c.args.test in
    record {
      went = subst (λ z. EachTwo step c.args.yes.now c.args.no.now c.args.bank.now 0 z c.args.bank.now) (sym c.new-row.ensures)
          (each_two_begins step c.args.yes.now c.args.no.now c.args.bank.now);
      grows = extends_self c.args.bank.now;
      bank = c.requires.bank;
    }

pub returns-clause-nodes : goal.returns-clause-nodes
returns-clause-nodes g c =
    let step = joined_word (g.B.Book.kinds c.args.book.now) c.args.test in
    each_two_nodes step c.args.yes.now c.args.no.now c.args.bank.now c.loop-place.place c.loop-place.row c.loop-place.bank c.loop-place-test.false
    c.loop-place.invariant.went

pub returns-clause-form : goal.returns-clause-form
returns-clause-form g c =
    let step = joined_word (g.B.Book.kinds c.args.book.now) c.args.test in
    each_two_value step c.args.yes.now c.args.no.now c.args.bank.now c.loop-place.place c.loop-place.row c.loop-place.bank c.loop-place-test.false
    c.loop-place.invariant.went

pub returns-in_err-word-clause-nodes : goal.returns-in_err-word-clause-nodes
returns-in_err-word-clause-nodes g c = IfOk-from_err c.from_residual.result _ c.from_residual.ensures.0

pub returns-in_err-word-clause-form : goal.returns-in_err-word-clause-form
returns-in_err-word-clause-form g c = IfOk-from_err c.from_residual.result _ c.from_residual.ensures.0

pub returns-in_err-push-clause-nodes : goal.returns-in_err-push-clause-nodes
returns-in_err-push-clause-nodes g c = IfOk-from_err c.from_residual-in_err-push.result _ c.from_residual-in_err-push.ensures.0

pub returns-in_err-push-clause-form : goal.returns-in_err-push-clause-form
returns-in_err-push-clause-form g c = IfOk-from_err c.from_residual-in_err-push.result _ c.from_residual-in_err-push.ensures.0

pub bounds-no-place : goal.bounds-no-place
bounds-no-place g c =
    let h = c.requires.rows in let one = h.one_is in let two = h.two_is in omega (arith, one.count, two.count, c.loop-place-test.true)
