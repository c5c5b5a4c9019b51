use Rattle.std.proofs.Common.{sym, subst}
use Rattle.ygg_shape_words.proofs.Fit.{form_fits}
use Rattle.ygg_shape_words.specs.Forms.{FormFits}
use Rattle.ygg_shape_words.proofs.comparing.form_at.Goals as goal

pub returns-clause-fits : goal.returns-clause-fits
returns-clause-fits c =
    let b = c.len.ensures.bank in
    subst (FormFits c.args.bank.now) (sym c.form_at_by.ensures)
    (form_fits c.args.progress.now c.args.bank.now c.args.one c.args.two b.ordered c.requires.words c.requires.known)
