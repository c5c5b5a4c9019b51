use Rattle.std.proofs.Common.{sym, ◌∙◌}
use Rattle.ygg_bank.proofs.Fitting.{constant_there}
use Rattle.ygg_shape_words.proofs.Fit.{constant_wide}
use Rattle.ygg_shape_words.proofs.forms.against_known.Goals as goal

pub against-requires-clause-at : goal.against-requires-clause-at
against-requires-clause-at c =
    let w = c.requires.words in
    constant_wide c.args.bank.now c.args.one c.args.two w.width c.in_default-Some.word c.requires.bank.ordered
    (constant_there c.args.bank.now c.args.two c.in_default-Some.word (sym c.requires.second ∙ c.in_default-Some.is-1)) w.one_has w.two_has

pub against-requires-in-Some-None-clause-at : goal.against-requires-in-Some-None-clause-at
against-requires-in-Some-None-clause-at c =
    let w = c.requires.words in
    constant_wide c.args.bank.now c.args.two c.args.one w.width c.in-Some-None.word c.requires.bank.ordered
    (constant_there c.args.bank.now c.args.one c.in-Some-None.word (sym c.requires.first ∙ c.in-Some-None.is-0)) w.two_has w.one_has
