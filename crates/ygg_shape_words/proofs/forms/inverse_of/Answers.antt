use Rattle.std.proofs.Common.{ap, ◌∙◌}
use Rattle.ygg_shape_words.specs.Forms.{inverse_of, nearer}
use Rattle.ygg_shape_words.proofs.forms.inverse_of.Goals as goal

pub returns-clause-value : goal.returns-clause-value
unfolding inverse_of
returns-clause-value c =
    let w = c.args.word in
    c.nearer.ensures.value
    ∙ ap (nearer w) (c.nearer-forty_eight.ensures.value
    ∙ ap (nearer w) (c.nearer-twenty_four.ensures.value
    ∙ ap (nearer w) (c.nearer-twelve.ensures.value ∙ ap (nearer w) c.nearer-six.ensures.value)))
