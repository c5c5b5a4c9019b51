use Rattle.std.proofs.Common.{◌+◌, ◌<◌, length, sym, subst, arith}
use Rattle.ygg_shape_words.specs.ygg_bank_proofs_Widths.{wider, extends_both, extends_self}
use Rattle.ygg_shape_joins.specs.Joining.{joined}
use Rattle.ygg_shape_cells.proofs.Steps.{EachTwo, each_two_goes, each_two_begins, each_two_nodes, each_two_value}
use Rattle.ygg_shape_cells.proofs.Whole.{alike_at, same_count}
use Rattle.std.proofs.lemmas.Result.{IfOk-from_err}
use Rattle.ygg_shape_joins.proofs.wholes.join_all_by.Goals as goal

pub bounds-no-place : goal.bounds-no-place
bounds-no-place g c =
    let h = c.requires.values in omega (arith, same_count c.args.bank.now h.shapes c.args.yes.now c.args.no.now h.ones_are h.twos_are, c.loop-place-test.true)

pub join-requires-clause-test : goal.join-requires-clause-test
join-requires-clause-test g c = wider c.args.bank.now c.loop-place.bank c.args.test 1 c.loop-place.invariant.grows c.requires.test

pub join-requires-clause-values : goal.join-requires-clause-values
join-requires-clause-values g c =
    let h = c.requires.values in
    alike_at c.args.bank.now c.loop-place.bank h.shapes c.args.yes.now c.args.no.now c.loop-place.place c.index-yes-place.result _
    c.index-no-place.result _ c.loop-place.invariant.grows h.ones_are h.twos_are c.loop-place-test.true c.index-yes-place.is c.index-no-place.is

pub loop-place-preserved : goal.loop-place-preserved
loop-place-preserved g c =
    let h = c.requires.values in
    let step = joined (g.B.Book.kinds c.args.book.now) c.args.test in
    let q : c.loop-place.place < length c.args.no.now =
    omega (arith, same_count c.args.bank.now h.shapes c.args.yes.now c.args.no.now h.ones_are h.twos_are, c.loop-place-test.true) in
    record {
      went = subst (λ z. EachTwo step c.args.yes.now c.args.no.now c.args.bank.now (c.loop-place.place + 1) z c.join.new.bank) (sym c.in_ok-push.ensures.ok)
          (each_two_goes step c.args.yes.now c.args.no.now c.args.bank.now c.loop-place.place c.loop-place.answers c.loop-place.bank c.index-yes-place.result _
          c.index-no-place.result _ c.in_ok-answer.answer c.join.new.bank c.loop-place-test.true q c.index-yes-place.is c.index-no-place.is
          c.in_ok-answer.ensures.nodes c.in_ok-answer.ensures.form c.loop-place.invariant.went);
      grows = extends_both c.args.bank.now c.loop-place.bank c.join.new.bank c.loop-place.invariant.grows c.join.ensures.grows;
      bank = c.join.ensures.bank;
    }

pub returns-in_err-answer-clause-grows : goal.returns-in_err-answer-clause-grows
returns-in_err-answer-clause-grows g c =
    extends_both c.args.bank.now c.loop-place.bank c.join.new.bank c.loop-place.invariant.grows c.join.ensures.grows

pub returns-in_err-push-clause-grows : goal.returns-in_err-push-clause-grows
returns-in_err-push-clause-grows g c =
    extends_both c.args.bank.now c.loop-place.bank c.join.new.bank c.loop-place.invariant.grows c.join.ensures.grows

pub loop-place-init : goal.loop-place-init
loop-place-init g c =
    let step = joined (g.B.Book.kinds c.args.book.now) c.args.test in
    record {
      went = subst (λ z. EachTwo step c.args.yes.now c.args.no.now c.args.bank.now 0 z c.args.bank.now) (sym c.new-answers.ensures)
          (each_two_begins step c.args.yes.now c.args.no.now c.args.bank.now);
      grows = extends_self c.args.bank.now;
      bank = c.requires.bank;
    }

pub returns-clause-nodes : goal.returns-clause-nodes
returns-clause-nodes g c =
    let step = joined (g.B.Book.kinds c.args.book.now) c.args.test in
    each_two_nodes step c.args.yes.now c.args.no.now c.args.bank.now c.loop-place.place c.loop-place.answers c.loop-place.bank c.loop-place-test.false
    c.loop-place.invariant.went

pub returns-clause-form : goal.returns-clause-form
returns-clause-form g c =
    let step = joined (g.B.Book.kinds c.args.book.now) c.args.test in
    each_two_value step c.args.yes.now c.args.no.now c.args.bank.now c.loop-place.place c.loop-place.answers c.loop-place.bank c.loop-place-test.false
    c.loop-place.invariant.went

pub returns-in_err-answer-clause-nodes : goal.returns-in_err-answer-clause-nodes
returns-in_err-answer-clause-nodes g c = IfOk-from_err c.from_residual.result _ c.from_residual.ensures.0

pub returns-in_err-answer-clause-form : goal.returns-in_err-answer-clause-form
returns-in_err-answer-clause-form g c = IfOk-from_err c.from_residual.result _ c.from_residual.ensures.0

pub returns-in_err-push-clause-nodes : goal.returns-in_err-push-clause-nodes
returns-in_err-push-clause-nodes g c = IfOk-from_err c.from_residual-in_err-push.result _ c.from_residual-in_err-push.ensures.0

pub returns-in_err-push-clause-form : goal.returns-in_err-push-clause-form
returns-in_err-push-clause-form g c = IfOk-from_err c.from_residual-in_err-push.result _ c.from_residual-in_err-push.ensures.0
