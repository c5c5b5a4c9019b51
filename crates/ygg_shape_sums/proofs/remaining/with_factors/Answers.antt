use Rattle.std.proofs.Common.{sym, subst}
use Rattle.ygg_shape_sums.proofs.Fit.{merged_fit, parts_wider}
use Rattle.ygg_shape_sums.proofs.Steps.{then_ok}
use Rattle.ygg_shape_sums.specs.Parts.{Sum, PartsFit, part}
use Rattle.ygg_shape_sums.proofs.remaining.with_factors.Goals as goal

pub returns-in_ok-term-in-Some-clause-parts : goal.returns-in_ok-term-in-Some-clause-parts
returns-in_ok-term-in-Some-clause-parts g c =
    let old = c.args.bank.now in
    let new = c.times_all.new.bank in
    let w = c.args.width in
    let ps = (c.args.sum.now).parts in
    let own = c.in_ok-term-in-Some.ensures.width in
    let fit = merged_fit new w (part c.args.times c.in_ok-term-in-Some.term) ps own (parts_wider old new w ps c.times_all.ensures.grows c.requires.parts) in
    then_ok c.add.result _ _ c.add.ensures (λ e. subst (λ (s : Sum). PartsFit new w s.parts) (sym e) fit)
