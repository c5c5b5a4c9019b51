use Rattle.std.proofs.Common.{[], sym, ap, ◌∙◌, subst}
use Rattle.ygg_shape_sums.proofs.Reduces.{read_fits}
use Rattle.ygg_shape_sums.specs.Parts.{PartsAlike, Sum}
use Rattle.ygg_shape_sums.proofs.equating.reads_product.Goals as goal

pub any_product-requires-clause-parts : goal.any_product-requires-clause-parts
any_product-requires-clause-parts c =
    subst (PartsAlike c.args.bank.now) (sym (c.parts.ensures ∙ ap (λ (s : Sum). s.parts) c.in_ok-sum.ensures))
    (record { width = c.args.width; fit = read_fits c.args.bank.now c.args.width [] c.args.total.now c.requires.bank.ordered c.requires.parts })
