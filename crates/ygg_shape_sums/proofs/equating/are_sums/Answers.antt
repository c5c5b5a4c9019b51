use Rattle.std.proofs.Common.{◌≡◌, sym, ap, ◌∙◌, subst}
use Rattle.ygg_shape_words.specs.ygg_bank_proofs_Widths.{stands, width_is}
use Rattle.ygg_shape_words.specs.ygg_bank.Nodes.{HasWidth}
use Rattle.ygg_shape_sums.proofs.Equates.{difference_fits}
use Rattle.ygg_shape_sums.specs.Parts.{PartsAlike, PartsFit, Sum}
use Rattle.ygg_shape_sums.proofs.equating.are_sums.Goals as goal

pub has_sum-requires-clause-parts : goal.has_sum-requires-clause-parts
has_sum-requires-clause-parts c =
    let w = c.requires.words in
    subst (PartsAlike c.args.bank.now) (sym (c.parts.ensures ∙ ap (λ (s : Sum). s.parts) c.in_ok-total.ensures))
    (record { width = w.width; fit = difference_fits c.args.bank.now w.width c.args.one c.args.two w.one_has w.two_has })

pub width-width-requires : goal.width-width-requires
width-width-requires c = let w = c.requires.words in stands c.args.bank.now c.args.one w.width w.one_has

pub loses_products-requires-clause-parts : goal.loses_products-requires-clause-parts
loses_products-requires-clause-parts c =
    let bank = c.args.bank.now in
    let w = c.requires.words in
    let e : w.width ≡ c.width-width.result = sym (width_is bank c.args.one w.width w.one_has) ∙ sym c.width-width.ensures.value in
    subst (λ (s : Sum). PartsFit bank c.width-width.result s.parts) (sym c.in_ok-total.ensures)
    (difference_fits bank c.width-width.result c.args.one c.args.two (subst (HasWidth bank c.args.one) e w.one_has)
    (subst (HasWidth bank c.args.two) e w.two_has))
