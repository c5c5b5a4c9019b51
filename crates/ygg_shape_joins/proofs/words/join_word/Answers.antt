use Rattle.std.proofs.Common.{Some, ap, ◌∙◌}
use Rattle.ygg_shape_words.specs.ygg_bank_proofs_Widths.{has_width}
use Rattle.ygg_shape_words.specs.ygg_bank.Nodes.{width_at, widths_of}
use Rattle.ygg_shape_words.proofs.Children.{pick_children}
use Rattle.ygg_shape_words.proofs.Fit.{can_pick}
use Rattle.ygg_shape_joins.proofs.words.join_word.Goals as goal

pub join_pick-requires-clause-other : goal.join_pick-requires-clause-other
join_pick-requires-clause-other g c =
    let old = c.args.bank.now in
    let p = c.requires.pick in
    let w = width_at (widths_of old) c.args.no in
    let k = pick_children old c.args.no c.in-Pick.other c.in-Pick.same c.in-Pick.rest w c.requires.bank.ordered c.in-Pick.ensures.there
    (has_width old c.args.no p.no) in
    can_pick old c.in-Pick.other c.args.yes c.in-Pick.rest w k.test (has_width old c.args.yes p.yes ∙ ap (λ z. Some z) p.widths) k.second
