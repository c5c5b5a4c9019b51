use Rattle.std.proofs.Common.{sym, ◌∙◌}
use Rattle.ygg_eval.specs.ygg_meaning.Shapes.{shape_in}
use Rattle.ygg_eval.proofs.Fitted.{fits_by_shape}
use Rattle.ygg_eval.proofs.shapes.fits.Goals as goal

pub returns : goal.returns
returns c =
    fits_by_shape c.is_shape.result (shape_in c.args.text) c.args.value.now c.shape_of.ensures.value
    (λ h. sym c.shape_of.ensures.shape ∙ c.is_shape.ensures.0 h)
    (λ h. c.is_shape.ensures.1 (c.shape_of.ensures.shape ∙ h))
