use Rattle.std.proofs.Common.{All, sym, ◌∙◌, subst}
use Rattle.ygg_shape_cells.proofs.of_ygg_bank.Widths.{wider, stands, extends_both}
use Rattle.ygg_shape_cells.specs.Pairs.{PairsFit}
use Rattle.ygg_shape_cells.specs.ygg_bank.Nodes.{Stands}
use Rattle.ygg_shape.specs.Comparing.{IsDigit}
use Rattle.ygg_shape.specs.Joins.{JoinFits}
use Rattle.ygg_shape.proofs.Holding.{conjuncts_stand, conjuncts_digits, equations_fit}
use Rattle.ygg_shape.proofs.Joining.{joins_fit}
use Rattle.ygg_shape.proofs.finding.facts_by.Goals as goal

pub conjuncts_of-requires-clause-stands : goal.conjuncts_of-requires-clause-stands
conjuncts_of-requires-clause-stands g c =
    let bank = c.make-2.new.self in
    let grows = extends_both c.args.bank.now c.make.new.self bank c.make.ensures.grows c.make-2.ensures.grows in
    stands bank c.args.hypothesis 1 (wider c.args.bank.now bank c.args.hypothesis 1 grows c.requires.hypothesis)

pub equations-requires : goal.equations-requires
equations-requires g c =
    let bank = c.make-2.new.self in
    let grows = extends_both c.args.bank.now c.make.new.self bank c.make.ensures.grows c.make-2.ensures.grows in
    let there = stands bank c.args.hypothesis 1 (wider c.args.bank.now bank c.args.hypothesis 1 grows c.requires.hypothesis) in
    subst (All (Stands bank)) (sym (c.as_slice.ensures ∙ c.in_ok-conjuncts.ensures))
    (conjuncts_stand bank c.args.hypothesis c.make-2.ensures.bank.ordered there)

pub found-requires : goal.found-requires
found-requires g c =
    let bank = c.make-2.new.self in
    let grows = extends_both c.args.bank.now c.make.new.self bank c.make.ensures.grows c.make-2.ensures.grows in
    let there = wider c.args.bank.now bank c.args.hypothesis 1 grows c.requires.hypothesis in
    let one = wider c.make.new.self bank c.in_ok-one.one 1 c.make-2.ensures.grows c.in_ok-one.ensures.width in
    let order = c.make-2.ensures.bank.ordered in
    let list = c.as_slice.ensures ∙ c.in_ok-conjuncts.ensures in
    subst (PairsFit bank) (sym (c.as_slice-2.ensures ∙ c.in_ok-pairs.ensures))
    (equations_fit bank c.in_ok-one.one c.in_ok-zero.zero order one c.in_ok-zero.ensures.width c.as_slice.result.now
    (subst (All (IsDigit bank)) (sym list) (conjuncts_digits bank c.args.hypothesis order there)))

pub joins-requires-clause-one : goal.joins-requires-clause-one
joins-requires-clause-one g c = wider c.make.new.self c.make-2.new.self c.in_ok-one.one 1 c.make-2.ensures.grows c.in_ok-one.ensures.width

pub joins-requires-clause-conjuncts : goal.joins-requires-clause-conjuncts
joins-requires-clause-conjuncts g c =
    let bank = c.make-2.new.self in
    let grows = extends_both c.args.bank.now c.make.new.self bank c.make.ensures.grows c.make-2.ensures.grows in
    let there = wider c.args.bank.now bank c.args.hypothesis 1 grows c.requires.hypothesis in
    subst (All (IsDigit bank)) (sym (c.as_slice-3.ensures ∙ c.in_ok-conjuncts.ensures))
    (conjuncts_digits bank c.args.hypothesis c.make-2.ensures.bank.ordered there)

pub make_joins-requires-clause-joins : goal.make_joins-requires-clause-joins
make_joins-requires-clause-joins g c =
    let bank = c.make-2.new.self in
    let grows = extends_both c.args.bank.now c.make.new.self bank c.make.ensures.grows c.make-2.ensures.grows in
    let there = wider c.args.bank.now bank c.args.hypothesis 1 grows c.requires.hypothesis in
    let one = wider c.make.new.self bank c.in_ok-one.one 1 c.make-2.ensures.grows c.in_ok-one.ensures.width in
    let order = c.make-2.ensures.bank.ordered in
    let list = c.as_slice-3.ensures ∙ c.in_ok-conjuncts.ensures in
    subst (All (JoinFits bank)) (sym (c.as_slice-4.ensures ∙ c.in_ok-joins.ensures))
    (joins_fit bank c.in_ok-one.one c.in_ok-zero.zero order one c.in_ok-zero.ensures.width c.as_slice-3.result.now
    (subst (All (IsDigit bank)) (sym list) (conjuncts_digits bank c.args.hypothesis order there)))
