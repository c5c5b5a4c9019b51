use Rattle.std.proofs.Common.{◌==◌, ap, ◌∙◌}
use Rattle.std.proofs.lemmas.Nat.{pow_pos}
use Rattle.ygg_value.specs.Number.{Number}
use Rattle.ygg_shape_words.proofs.Tests.{fits_test}
use Rattle.ygg_shape_words.proofs.forms.fits.Goals as goal

pub returns : goal.returns
returns c =
    ap (λ (n : Number). n.bits == c.args.number) (c.result.view_is ∙ c.resize.ensures) ∙ fits_test c.args.width c.args.number (pow_pos c.args.width)
