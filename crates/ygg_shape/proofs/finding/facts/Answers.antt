use Rattle.ygg_shape_cells.proofs.of_ygg_bank.Exist.{keeps_values}
use Rattle.ygg_shape.proofs.Hypotheses.{facts_fit, facts_true}
use Rattle.ygg_shape.proofs.finding.facts.Goals as goal

pub returns-clause-fit : goal.returns-clause-fit
returns-clause-fit g c =
    facts_fit (g.B.Book.kinds c.args.book.now) c.args.hypothesis c.args.bank.now c.facts_by.new.bank c.facts_by.result c.facts_by.ensures.bank
    c.requires.hypothesis c.facts_by.ensures.nodes c.facts_by.ensures.form

pub returns-clause-true_under : goal.returns-clause-true_under
returns-clause-true_under g c =
    facts_true (g.B.Book.kinds c.args.book.now) c.args.hypothesis c.args.bank.now c.facts_by.new.bank c.facts_by.result c.facts_by.ensures.bank
    c.requires.hypothesis c.facts_by.ensures.nodes c.facts_by.ensures.form

pub returns-clause-keeps : goal.returns-clause-keeps
returns-clause-keeps g c = keeps_values c.args.bank.now c.facts_by.new.bank c.facts_by.ensures.grows
