use Rattle.ygg_shape_sums.specs.ygg_bank_proofs_Widths.{extends_both}
use Rattle.ygg_shape_cells.proofs.Fit.{pair_at}
use Rattle.ygg_shape.proofs.EquateSteps.{joined_begins, joined_goes, joined_value, joined_nodes}
use Rattle.ygg_shape.proofs.equating.one_by_one.Goals as goal

pub join-requires-clause-pair : goal.join-requires-clause-pair
join-requires-clause-pair g c =
    pair_at c.args.bank.now c.loop-pair.bank c.args.pairs.now c.loop-pair.pair-index _ c.loop-pair.invariant.grows c.requires.pairs c.loop-pair-test.true

pub loop-pair-init : goal.loop-pair-init
loop-pair-init g c =
    record {
      went = joined_begins (g.B.Book.kinds c.args.book.now) c.args.pairs.now c.args.bank.now c.make.new.self c.in_ok-all.all c.in_ok-all.ensures.nodes
          c.in_ok-all.ensures.id;
      grows = c.make.ensures.grows;
      wide = c.in_ok-all.ensures.width;
      bank = c.make.ensures.bank;
    }

pub loop-pair-preserved : goal.loop-pair-preserved
loop-pair-preserved g c =
    record {
      went = joined_goes (g.B.Book.kinds c.args.book.now) c.args.pairs.now c.args.bank.now c.loop-pair.pair-index _ c.loop-pair.all c.in_ok-all-2.all
          c.loop-pair.bank c.join.new.bank c.loop-pair-test.true c.in_ok-all-2.ensures.nodes c.in_ok-all-2.ensures.form c.loop-pair.invariant.went;
      grows = extends_both c.args.bank.now c.loop-pair.bank c.join.new.bank c.loop-pair.invariant.grows c.join.ensures.grows;
      wide = c.in_ok-all-2.ensures.width;
      bank = c.join.ensures.bank;
    }

pub returns-in_err-all-2-clause-grows : goal.returns-in_err-all-2-clause-grows
returns-in_err-all-2-clause-grows g c =
    extends_both c.args.bank.now c.loop-pair.bank c.join.new.bank c.loop-pair.invariant.grows c.join.ensures.grows

pub returns-clause-nodes : goal.returns-clause-nodes
returns-clause-nodes g c =
    joined_nodes (g.B.Book.kinds c.args.book.now) c.args.pairs.now c.args.bank.now c.loop-pair.pair-index c.loop-pair.all c.loop-pair.bank
    c.loop-pair-test.false c.loop-pair.invariant.went

pub returns-clause-form : goal.returns-clause-form
returns-clause-form g c =
    joined_value (g.B.Book.kinds c.args.book.now) c.args.pairs.now c.args.bank.now c.loop-pair.pair-index c.loop-pair.all c.loop-pair.bank
    c.loop-pair-test.false c.loop-pair.invariant.went
