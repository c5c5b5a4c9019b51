use Rattle.std.proofs.Common.{sym, subst}
use Rattle.ygg_shape_words.specs.ygg_bank_proofs_Widths.{wider}
use Rattle.ygg_shape_sums.proofs.Equates.{difference_fits}
use Rattle.ygg_shape_sums.specs.Parts.{PartsFit, Sum}
use Rattle.ygg_shape_sums.proofs.equating.shared.Goals as goal

pub shared_inside-requires-2-clause-term : goal.shared_inside-requires-2-clause-term
shared_inside-requires-2-clause-term g c =
    wider c.args.bank.now c.shared_inside.new.bank c.args.two c.args.width c.shared_inside.ensures.grows c.requires.two

pub vanishes_by-requires-clause-parts : goal.vanishes_by-requires-clause-parts
vanishes_by-requires-clause-parts g c =
    let new = c.shared_inside-2.new.bank in
    let w = c.args.width in
    let one = wider c.shared_inside.new.bank new c.in_ok-first.first w c.shared_inside-2.ensures.grows c.in_ok-first.ensures.width in
    subst (λ (s : Sum). PartsFit new w s.parts) (sym c.in_ok-total.ensures)
    (difference_fits new w c.in_ok-first.first c.in_ok-second.second one c.in_ok-second.ensures.width)
