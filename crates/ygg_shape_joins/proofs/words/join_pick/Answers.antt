use Rattle.std.proofs.Common.{Some, ap, ◌∙◌}
use Rattle.ygg_shape_words.specs.ygg_bank_proofs_Widths.{has_width, wider}
use Rattle.ygg_shape_words.specs.ygg_bank.Nodes.{width_at, widths_of}
use Rattle.ygg_shape_words.proofs.Fit.{can_pick}
use Rattle.ygg_shape_joins.proofs.words.join_pick.Goals as goal

pub pick-requires-2-clause-pick : goal.pick-requires-2-clause-pick
pick-requires-2-clause-pick g c =
    let old = c.args.bank.now in
    let new = c.make.new.self in
    let p = c.requires.other in
    let w = width_at (widths_of old) c.args.rest in
    let grows = c.make.ensures.grows in
    can_pick new c.in_ok-either.either c.args.yes c.args.rest w (c.in_ok-either.ensures.width ∙ ap (λ z. Some z) c.requires.pick.digit)
    (wider old new c.args.yes w grows (has_width old c.args.yes p.yes ∙ ap (λ z. Some z) p.widths))
    (wider old new c.args.rest w grows (has_width old c.args.rest p.no))
