use Rattle.std.proofs.Common.{◌-◌, List, length, sym, ap, ◌∙◌, arith}
use Rattle.std.proofs.lemmas.List.{drop_all}
use Rattle.ygg_shape_cells.specs.ygg_bank_proofs_Widths.{extends_both}
use Rattle.ygg_shape_cells.specs.ygg_bank.declared.node.Id.{Id}
use Rattle.ygg_shape.proofs.Listed.{digits_later, conjunction_more}
use Rattle.ygg_shape.specs.Comparing.{conjunction}
use Rattle.ygg_shape.proofs.whole_comparing.join.Goals as goal

pub loop-left-init : goal.loop-left-init
loop-left-init g c =
    let kinds = g.B.Book.kinds c.args.book.now in
    let digits = c.args.digits.now in
    let old = c.args.bank.now in
    let e = sym (drop_all (length digits) digits (omega arith)) in
    record {
      nodes = c.in_ok-all.ensures.nodes ∙ ap (λ (z : List Id). (conjunction kinds z old).nodes) e;
      value = c.in_ok-all.ensures.id ∙ ap (λ (z : List Id). (conjunction kinds z old).value) e;
      left = omega arith;
      wide = c.in_ok-all.ensures.width;
      digits = digits_later old c.make.new.self digits c.make.ensures.grows c.requires.digits;
      grows = c.make.ensures.grows;
      bank = c.make.ensures.bank;
    }

pub loop-left-preserved : goal.loop-left-preserved
loop-left-preserved g c =
    let kinds = g.B.Book.kinds c.args.book.now in
    let digits = c.args.digits.now in
    let old = c.args.bank.now in
    let now = c.loop-left.bank in
    let left = c.loop-left.left in
    let more = conjunction_more kinds digits old (left - 1) left c.loop-left.all now (omega arith) (omega arith) c.loop-left.invariant.nodes
    c.loop-left.invariant.value _ in
    record {
      nodes = c.in_ok-all-2.ensures.nodes ∙ more.nodes;
      value = c.in_ok-all-2.ensures.form ∙ more.value;
      left = omega arith;
      wide = c.in_ok-all-2.ensures.width;
      digits = digits_later now c.join_one.new.bank digits c.join_one.ensures.grows c.loop-left.invariant.digits;
      grows = extends_both old now c.join_one.new.bank c.loop-left.invariant.grows c.join_one.ensures.grows;
      bank = c.join_one.ensures.bank;
    }

pub join_one-requires-clause-one : goal.join_one-requires-clause-one
join_one-requires-clause-one g c = c.loop-left.invariant.digits (c.loop-left.left - 1) _ (omega (arith, c.loop-left.invariant.left, c.loop-left-test.true))

pub bounds-digits-left : goal.bounds-digits-left
bounds-digits-left g c = omega (arith, c.loop-left.invariant.left, c.loop-left-test.true)

pub returns-in_err-all-2-clause-grows : goal.returns-in_err-all-2-clause-grows
returns-in_err-all-2-clause-grows g c =
    extends_both c.args.bank.now c.loop-left.bank c.join_one.new.bank c.loop-left.invariant.grows c.join_one.ensures.grows
