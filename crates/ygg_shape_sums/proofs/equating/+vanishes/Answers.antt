use Rattle.ygg_shape_sums.proofs.MadeSides.{split_none, split_some}
use Rattle.std.proofs.lemmas.Result.{IfOk-from_err}
use Rattle.std.proofs.Common.{rules, ◌<◌, IfOk, List, sym, ap, ◌∙◌, subst, arith}
use Rattle.ygg_shape_words.specs.ygg_bank_proofs_Widths.{wider, width_is, extends_self, extends_both}
use Rattle.ygg_shape_words.specs.ygg_bank.Nodes.{HasWidth}
use Rattle.ygg_shape_words.specs.ygg_bank.declared.node.Id.{Id}
use Rattle.ygg_shape_words.proofs.Fit.{can_pick}
use Rattle.ygg_shape_sums.proofs.Reduces.{sum_fits}
use Rattle.ygg_shape_sums.proofs.Fit.{parts_wider, facts_wider, facts_more}
use Rattle.ygg_shape_sums.proofs.Splits.{split_digit}
use Rattle.ygg_shape_sums.proofs.Steps.{within_zero, within_split}
use Rattle.ygg_shape_sums.specs.Splits.{split_of}
use Rattle.ygg_shape_sums.specs.Equates.{IsFound, vanishes_within}
use Rattle.ygg_shape_sums.specs.Parts.{PartsFit, Sum}
use Rattle.ygg_shape_sums.specs.Readings.{FactsFit}
use Rattle.ygg_shape_sums.specs.declared.reading.Fact.{Fact}
use Rattle.ygg_shape_sums.specs.declared.parts.Summand.{Summand}
use Rattle.ygg_shape_sums.proofs.equating.+vanishes.Goals as goal

pub vanishes_within-returns-then-depth-eq0-clause-made : goal.vanishes_within-returns-then-depth-eq0-clause-made
vanishes_within-returns-then-depth-eq0-clause-made g t c =
    within_zero (g.B.Book.kinds c.args.book.now) c.args.width c.args.depth c.args.left.now c.args.facts.now c.args.total.now c.args.bank.now
    c.vanishes_left.new.bank c.vanishes_left.result c.if-depth-eq0.true c.vanishes_left.ensures.nodes c.vanishes_left.ensures.form

pub vanishes_within-vanishes_split-requires : goal.vanishes_within-vanishes_split-requires
vanishes_within-vanishes_split-requires g t c κs within =
    let q = subst (λ (s : Sum). PartsFit c.args.bank.now c.args.width s.parts) (sym c.in_ok-sum.ensures)
    (sum_fits c.args.bank.now c.args.width c.args.facts.now c.args.total.now c.requires.bank.ordered c.requires.parts) in
    (omega arith, (search rules, (c.requires.bank, (c.requires.width, (c.requires.facts, q)))))

pub vanishes_within-returns-clause-made : goal.vanishes_within-returns-clause-made
vanishes_within-returns-clause-made g t c =
    let d : 0 < c.args.depth = omega (arith, c.if-depth-eq0.false) in
    within_split (g.B.Book.kinds c.args.book.now) c.args.width c.args.depth c.args.left.now c.vanishes_split.new.left c.args.facts.now c.args.total.now
    c.in_ok-sum.sum c.args.bank.now c.vanishes_split.new.bank c.vanishes_split.result d c.in_ok-sum.ensures c.vanishes_split.ensures.made

pub vanishes_split-split_of-requires-clause-parts : goal.vanishes_split-split_of-requires-clause-parts
vanishes_split-split_of-requires-clause-parts g t c = subst (PartsFit c.args.bank.now c.args.width) (sym c.parts.ensures) c.requires.parts

pub vanishes_split-split_of-requires-clause-facts : goal.vanishes_split-split_of-requires-clause-facts
vanishes_split-split_of-requires-clause-facts g t c = c.requires.facts

pub vanishes_split-vanishes_where-requires : goal.vanishes_split-vanishes_where-requires
vanishes_split-vanishes_where-requires g t c κs within =
    let n = sym c.in-Some.is ∙ c.in_ok-split_of.ensures ∙ ap (λ (ps : List Summand). split_of c.args.bank.now c.args.width c.args.left.now c.args.facts.now ps) c.parts.ensures in
    let digit = split_digit c.args.bank.now c.args.width c.args.left.now c.args.facts.now (c.args.sum.now).parts c.in-Some.test c.requires.bank.ordered
    c.requires.parts (sym n) in
    (omega arith, (search rules, (c.requires.bank, (c.requires.width, (c.requires.facts, (digit, c.requires.parts))))))

pub vanishes_split-vanishes_where-requires-in-Some : goal.vanishes_split-vanishes_where-requires-in-Some
vanishes_split-vanishes_where-requires-in-Some g t c κs within =
    let a = c.args.bank.now in
    let b = c.vanishes_where.new.bank in
    let grows = c.vanishes_where.ensures.grows in
    let n = sym c.in-Some.is ∙ c.in_ok-split_of.ensures ∙ ap (λ (ps : List Summand). split_of c.args.bank.now c.args.width c.args.left.now c.args.facts.now ps) c.parts.ensures in
    let digit = split_digit a c.args.width c.args.left.now c.args.facts.now (c.args.sum.now).parts c.in-Some.test c.requires.bank.ordered c.requires.parts (sym n) in (
      omega arith,
      (
        search rules,
        (
          c.vanishes_where.ensures.bank,
          (
            c.requires.width,
            (
              facts_wider a b c.args.facts.now grows c.requires.facts,
              (wider a b c.in-Some.test 1 grows digit, parts_wider a b c.args.width (c.args.sum.now).parts grows c.requires.parts),
            ),
          ),
        ),
      ),
    )

pub vanishes_split-pick-requires-clause-pick : goal.vanishes_split-pick-requires-clause-pick
vanishes_split-pick-requires-clause-pick g t c =
    let a = c.args.bank.now in let b = c.vanishes_where.new.bank in let m = c.vanishes_where-in-Some.new.bank in
    let n = sym c.in-Some.is ∙ c.in_ok-split_of.ensures ∙ ap (λ (ps : List Summand). split_of c.args.bank.now c.args.width c.args.left.now c.args.facts.now ps) c.parts.ensures in
    let digit = split_digit a c.args.width c.args.left.now c.args.facts.now (c.args.sum.now).parts c.in-Some.test c.requires.bank.ordered c.requires.parts (sym n) in
    can_pick m c.in-Some.test c.in_ok-yes-in-Some.yes c.in_ok-no-in-Some.no 1
    (wider a m c.in-Some.test 1 (extends_both a b m c.vanishes_where.ensures.grows c.vanishes_where-in-Some.ensures.grows) digit)
    (wider b m c.in_ok-yes-in-Some.yes 1 c.vanishes_where-in-Some.ensures.grows c.in_ok-yes-in-Some.ensures.width) c.in_ok-no-in-Some.ensures.width

pub vanishes_split-returns-in_ok-no-in-Some-clause-width : goal.vanishes_split-returns-in_ok-no-in-Some-clause-width
vanishes_split-returns-in_ok-no-in-Some-clause-width g t c =
    let b = c.vanishes_where.new.bank in let m = c.vanishes_where-in-Some.new.bank in
    subst (λ w. IfOk c.pick.result (λ (id : Id). HasWidth c.pick.new.bank id w)) (width_is m c.in_ok-yes-in-Some.yes 1
    (wider b m c.in_ok-yes-in-Some.yes 1 c.vanishes_where-in-Some.ensures.grows c.in_ok-yes-in-Some.ensures.width)) c.pick.ensures.width

pub vanishes_split-returns-in_err-no-in-Some-clause-grows : goal.vanishes_split-returns-in_err-no-in-Some-clause-grows
vanishes_split-returns-in_err-no-in-Some-clause-grows g t c =
    extends_both c.args.bank.now c.vanishes_where.new.bank c.vanishes_where-in-Some.new.bank c.vanishes_where.ensures.grows
    c.vanishes_where-in-Some.ensures.grows

pub vanishes_split-returns-in_ok-no-in-Some-clause-grows : goal.vanishes_split-returns-in_ok-no-in-Some-clause-grows
vanishes_split-returns-in_ok-no-in-Some-clause-grows g t c =
    extends_both c.args.bank.now c.vanishes_where-in-Some.new.bank c.pick.new.bank (extends_both c.args.bank.now c.vanishes_where.new.bank
    c.vanishes_where-in-Some.new.bank c.vanishes_where.ensures.grows c.vanishes_where-in-Some.ensures.grows) c.pick.ensures.grows

pub vanishes_where-vanishes_within-requires : goal.vanishes_where-vanishes_within-requires
vanishes_where-vanishes_within-requires g t c κs within =
    let facts = subst (λ (fs : List Fact). FactsFit c.args.bank.now fs) (sym (c.as_slice.ensures.value ∙ c.in_ok-more.ensures))
    (facts_more c.args.bank.now c.args.facts.now c.args.test c.args.digit c.requires.facts c.requires.test) in
    (omega arith, (search rules, (c.requires.bank, (c.requires.width, (facts, c.requires.parts)))))

pub vanishes_where-returns-clause-made : goal.vanishes_where-returns-clause-made
vanishes_where-returns-clause-made g t c =
    subst (λ (fs : List Fact). IfOk c.vanishes_within.result (λ (id : Id). IsFound (vanishes_within (g.B.Book.kinds c.args.book.now) c.args.width
    c.args.depth c.args.left.now fs c.args.sum.now) c.args.bank.now c.vanishes_within.new.bank id c.vanishes_within.new.left))
    (c.as_slice.ensures.value ∙ c.in_ok-more.ensures) c.vanishes_within.ensures.made

pub vanishes_within-reduce-requires-clause-facts : goal.vanishes_within-reduce-requires-clause-facts
vanishes_within-reduce-requires-clause-facts g t c = c.requires.facts

pub vanishes_within-reduce-requires-clause-parts : goal.vanishes_within-reduce-requires-clause-parts
vanishes_within-reduce-requires-clause-parts g t c = c.requires.parts

pub vanishes_within-vanishes_left-requires-clause-parts : goal.vanishes_within-vanishes_left-requires-clause-parts
vanishes_within-vanishes_left-requires-clause-parts g t c = c.requires.parts

pub vanishes_split-vanishes_left-requires-clause-parts : goal.vanishes_split-vanishes_left-requires-clause-parts
vanishes_split-vanishes_left-requires-clause-parts g t c = c.requires.parts

pub vanishes_within-returns-in_err-sum-clause-made : goal.vanishes_within-returns-in_err-sum-clause-made
vanishes_within-returns-in_err-sum-clause-made g t c = IfOk-from_err c.from_residual.result _ c.from_residual.ensures.0

pub vanishes_within-returns-in_err-sum-clause-width : goal.vanishes_within-returns-in_err-sum-clause-width
vanishes_within-returns-in_err-sum-clause-width g t c = IfOk-from_err c.from_residual.result _ c.from_residual.ensures.0

pub vanishes_within-returns-in_err-sum-clause-grows : goal.vanishes_within-returns-in_err-sum-clause-grows
vanishes_within-returns-in_err-sum-clause-grows g t c = extends_self c.args.bank.now

pub vanishes_within-returns-in_err-sum-clause-bank : goal.vanishes_within-returns-in_err-sum-clause-bank
vanishes_within-returns-in_err-sum-clause-bank g t c = c.requires.bank

pub vanishes_split-returns-in_err-split_of-clause-made : goal.vanishes_split-returns-in_err-split_of-clause-made
vanishes_split-returns-in_err-split_of-clause-made g t c = IfOk-from_err c.from_residual.result _ c.from_residual.ensures.0

pub vanishes_split-returns-in_err-split_of-clause-width : goal.vanishes_split-returns-in_err-split_of-clause-width
vanishes_split-returns-in_err-split_of-clause-width g t c = IfOk-from_err c.from_residual.result _ c.from_residual.ensures.0

pub vanishes_split-returns-in_err-split_of-clause-grows : goal.vanishes_split-returns-in_err-split_of-clause-grows
vanishes_split-returns-in_err-split_of-clause-grows g t c = extends_self c.args.bank.now

pub vanishes_split-returns-in_err-split_of-clause-bank : goal.vanishes_split-returns-in_err-split_of-clause-bank
vanishes_split-returns-in_err-split_of-clause-bank g t c = c.requires.bank

pub vanishes_split-returns-in_err-yes-in-Some-clause-made : goal.vanishes_split-returns-in_err-yes-in-Some-clause-made
vanishes_split-returns-in_err-yes-in-Some-clause-made g t c =
    IfOk-from_err c.from_residual-in_err-yes-in-Some.result _ c.from_residual-in_err-yes-in-Some.ensures.0

pub vanishes_split-returns-in_err-yes-in-Some-clause-width : goal.vanishes_split-returns-in_err-yes-in-Some-clause-width
vanishes_split-returns-in_err-yes-in-Some-clause-width g t c =
    IfOk-from_err c.from_residual-in_err-yes-in-Some.result _ c.from_residual-in_err-yes-in-Some.ensures.0

pub vanishes_split-returns-in_err-yes-in-Some-clause-grows : goal.vanishes_split-returns-in_err-yes-in-Some-clause-grows
vanishes_split-returns-in_err-yes-in-Some-clause-grows g t c = c.vanishes_where.ensures.grows

pub vanishes_split-returns-in_err-yes-in-Some-clause-bank : goal.vanishes_split-returns-in_err-yes-in-Some-clause-bank
vanishes_split-returns-in_err-yes-in-Some-clause-bank g t c = c.vanishes_where.ensures.bank

pub vanishes_split-returns-in_err-no-in-Some-clause-made : goal.vanishes_split-returns-in_err-no-in-Some-clause-made
vanishes_split-returns-in_err-no-in-Some-clause-made g t c =
    IfOk-from_err c.from_residual-in_err-no-in-Some.result _ c.from_residual-in_err-no-in-Some.ensures.0

pub vanishes_split-returns-in_err-no-in-Some-clause-width : goal.vanishes_split-returns-in_err-no-in-Some-clause-width
vanishes_split-returns-in_err-no-in-Some-clause-width g t c =
    IfOk-from_err c.from_residual-in_err-no-in-Some.result _ c.from_residual-in_err-no-in-Some.ensures.0

pub vanishes_split-returns-in_err-no-in-Some-clause-bank : goal.vanishes_split-returns-in_err-no-in-Some-clause-bank
vanishes_split-returns-in_err-no-in-Some-clause-bank g t c = c.vanishes_where-in-Some.ensures.bank

pub vanishes_where-returns-in_err-more-clause-made : goal.vanishes_where-returns-in_err-more-clause-made
vanishes_where-returns-in_err-more-clause-made g t c = IfOk-from_err c.from_residual.result _ c.from_residual.ensures.0

pub vanishes_where-returns-in_err-more-clause-width : goal.vanishes_where-returns-in_err-more-clause-width
vanishes_where-returns-in_err-more-clause-width g t c = IfOk-from_err c.from_residual.result _ c.from_residual.ensures.0

pub vanishes_where-returns-in_err-more-clause-grows : goal.vanishes_where-returns-in_err-more-clause-grows
vanishes_where-returns-in_err-more-clause-grows g t c = extends_self c.args.bank.now

pub vanishes_where-returns-in_err-more-clause-bank : goal.vanishes_where-returns-in_err-more-clause-bank
vanishes_where-returns-in_err-more-clause-bank g t c = c.requires.bank

pub vanishes_within-returns-then-depth-eq0-clause-width : goal.vanishes_within-returns-then-depth-eq0-clause-width
vanishes_within-returns-then-depth-eq0-clause-width g t c = c.vanishes_left.ensures.width

pub vanishes_within-returns-then-depth-eq0-clause-grows : goal.vanishes_within-returns-then-depth-eq0-clause-grows
vanishes_within-returns-then-depth-eq0-clause-grows g t c = c.vanishes_left.ensures.grows

pub vanishes_within-returns-then-depth-eq0-clause-bank : goal.vanishes_within-returns-then-depth-eq0-clause-bank
vanishes_within-returns-then-depth-eq0-clause-bank g t c = c.vanishes_left.ensures.bank

pub vanishes_within-returns-clause-width : goal.vanishes_within-returns-clause-width
vanishes_within-returns-clause-width g t c = c.vanishes_split.ensures.width

pub vanishes_within-returns-clause-grows : goal.vanishes_within-returns-clause-grows
vanishes_within-returns-clause-grows g t c = c.vanishes_split.ensures.grows

pub vanishes_within-returns-clause-bank : goal.vanishes_within-returns-clause-bank
vanishes_within-returns-clause-bank g t c = c.vanishes_split.ensures.bank

pub vanishes_split-returns-in-None-clause-width : goal.vanishes_split-returns-in-None-clause-width
vanishes_split-returns-in-None-clause-width g t c = c.vanishes_left.ensures.width

pub vanishes_split-returns-in-None-clause-grows : goal.vanishes_split-returns-in-None-clause-grows
vanishes_split-returns-in-None-clause-grows g t c = c.vanishes_left.ensures.grows

pub vanishes_split-returns-in-None-clause-bank : goal.vanishes_split-returns-in-None-clause-bank
vanishes_split-returns-in-None-clause-bank g t c = c.vanishes_left.ensures.bank

pub vanishes_split-returns-in_ok-no-in-Some-clause-bank : goal.vanishes_split-returns-in_ok-no-in-Some-clause-bank
vanishes_split-returns-in_ok-no-in-Some-clause-bank g t c = c.pick.ensures.bank

pub vanishes_where-returns-clause-width : goal.vanishes_where-returns-clause-width
vanishes_where-returns-clause-width g t c = c.vanishes_within.ensures.width

pub vanishes_where-returns-clause-grows : goal.vanishes_where-returns-clause-grows
vanishes_where-returns-clause-grows g t c = c.vanishes_within.ensures.grows

pub vanishes_where-returns-clause-bank : goal.vanishes_where-returns-clause-bank
vanishes_where-returns-clause-bank g t c = c.vanishes_within.ensures.bank

pub vanishes_split-returns-in-None-clause-made : goal.vanishes_split-returns-in-None-clause-made
vanishes_split-returns-in-None-clause-made g t c =
    split_none (g.B.Book.kinds c.args.book.now) c.args.width (vanishes_within (g.B.Book.kinds c.args.book.now) c.args.width c.args.depth) c.args.facts.now
    c.args.sum.now
    (split_of c.args.bank.now c.args.width c.args.left.now c.args.facts.now (c.args.sum.now).parts) c.args.bank.now c.vanishes_left.new.bank c.args.left.now c.vanishes_left.result
    (sym (sym c.in-None.is ∙ c.in_ok-split_of.ensures ∙ ap (λ (ps : List Summand). split_of c.args.bank.now c.args.width c.args.left.now c.args.facts.now ps) c.parts.ensures))
    c.vanishes_left.ensures.nodes c.vanishes_left.ensures.form

pub vanishes_split-returns-in_ok-no-in-Some-clause-made : goal.vanishes_split-returns-in_ok-no-in-Some-clause-made
vanishes_split-returns-in_ok-no-in-Some-clause-made g t c =
    split_some (g.B.Book.kinds c.args.book.now) c.args.width (vanishes_within (g.B.Book.kinds c.args.book.now) c.args.width c.args.depth) c.args.facts.now
    c.args.sum.now
    (split_of c.args.bank.now c.args.width c.args.left.now c.args.facts.now (c.args.sum.now).parts) c.args.bank.now c.pick.new.bank c.args.left.now _ c.vanishes_where.new.left
    c.vanishes_where-in-Some.new.left c.in-Some.test c.in_ok-yes-in-Some.yes c.in_ok-no-in-Some.no c.vanishes_where.new.bank
    c.vanishes_where-in-Some.new.bank c.pick.result
    (sym (sym c.in-Some.is ∙ c.in_ok-split_of.ensures ∙ ap (λ (ps : List Summand). split_of c.args.bank.now c.args.width c.args.left.now c.args.facts.now ps) c.parts.ensures))
    c.saturating_sub.ensures c.in_ok-yes-in-Some.ensures.made c.in_ok-no-in-Some.ensures.made c.pick.ensures.nodes c.pick.ensures.form
