use Rattle.std.proofs.Common.{◌+◌, ◌<◌, List, All, length, sym, subst, arith}
use Rattle.ygg_shape_cells.specs.ygg_bank_proofs_Widths.{extends_both}
use Rattle.ygg_shape_cells.specs.ygg_bank.declared.node.Id.{Id}
use Rattle.ygg_shape.specs.Comparing.{compared, IsDigit}
use Rattle.ygg_shape_cells.proofs.Steps.{EachTwo, each_two_goes, each_two_value, each_two_nodes}
use Rattle.ygg_shape_cells.proofs.Whole.{alike_at, same_count}
use Rattle.ygg_shape.proofs.Listed.{digits_more}
use Rattle.ygg_shape.proofs.whole_comparing.equals.Goals as goal

pub bounds-twos-place : goal.bounds-twos-place
bounds-twos-place g c =
    let h = c.requires.values in
    omega (arith, same_count c.args.bank.now h.shapes c.args.ones.now c.args.twos.now h.ones_are h.twos_are, c.loop-place-test.true)

pub equal-requires : goal.equal-requires
equal-requires g c =
    let h = c.requires.values in
    alike_at c.args.bank.now c.loop-place.bank h.shapes c.args.ones.now c.args.twos.now c.loop-place.place c.index-ones-place.result _
    c.index-twos-place.result _ c.loop-place.invariant.grows h.ones_are h.twos_are c.loop-place-test.true c.index-ones-place.is c.index-twos-place.is

pub loop-place-preserved : goal.loop-place-preserved
loop-place-preserved g c =
    let h = c.requires.values in
    let step = compared (g.B.Book.kinds c.args.book.now) in
    let q : c.loop-place.place < length c.args.twos.now =
    omega (arith, same_count c.args.bank.now h.shapes c.args.ones.now c.args.twos.now h.ones_are h.twos_are, c.loop-place-test.true) in
    record {
      went = subst (λ (z : List Id). EachTwo step c.args.ones.now c.args.twos.now c.args.bank.now (c.loop-place.place + 1) z c.equal.new.bank)
          (sym c.in_ok-push.ensures.items)
          (each_two_goes step c.args.ones.now c.args.twos.now c.args.bank.now c.loop-place.place c.loop-place.digits.items c.loop-place.bank
          c.index-ones-place.result _ c.index-twos-place.result _ c.in_ok-digit.digit c.equal.new.bank c.loop-place-test.true q c.index-ones-place.is
          c.index-twos-place.is
          c.in_ok-digit.ensures.nodes c.in_ok-digit.ensures.form c.loop-place.invariant.went);
      digits = subst (λ (z : List Id). All (IsDigit c.equal.new.bank) z) (sym c.in_ok-push.ensures.items)
          (digits_more c.loop-place.bank c.equal.new.bank c.loop-place.digits.items c.in_ok-digit.digit c.equal.ensures.grows c.loop-place.invariant.digits
          c.in_ok-digit.ensures.width);
      grows = extends_both c.args.bank.now c.loop-place.bank c.equal.new.bank c.loop-place.invariant.grows c.equal.ensures.grows;
      bank = c.equal.ensures.bank;
    }

pub returns-in_err-digit-clause-grows : goal.returns-in_err-digit-clause-grows
returns-in_err-digit-clause-grows g c =
    extends_both c.args.bank.now c.loop-place.bank c.equal.new.bank c.loop-place.invariant.grows c.equal.ensures.grows

pub returns-in_err-push-clause-grows : goal.returns-in_err-push-clause-grows
returns-in_err-push-clause-grows g c =
    extends_both c.args.bank.now c.loop-place.bank c.equal.new.bank c.loop-place.invariant.grows c.equal.ensures.grows

pub returns-clause-nodes : goal.returns-clause-nodes
returns-clause-nodes g c =
    each_two_nodes (compared (g.B.Book.kinds c.args.book.now)) c.args.ones.now c.args.twos.now c.args.bank.now c.loop-place.place c.loop-place.digits.items
    c.loop-place.bank c.loop-place-test.false c.loop-place.invariant.went

pub returns-clause-form : goal.returns-clause-form
returns-clause-form g c =
    each_two_value (compared (g.B.Book.kinds c.args.book.now)) c.args.ones.now c.args.twos.now c.args.bank.now c.loop-place.place c.loop-place.digits.items
    c.loop-place.bank c.loop-place-test.false c.loop-place.invariant.went
