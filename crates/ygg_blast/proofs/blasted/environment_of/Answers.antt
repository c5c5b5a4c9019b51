use Rattle.ygg_cnf.specs.Literals.{truth_of}
use Rattle.ygg_blast.proofs.Zero.{zero_in}
use Rattle.ygg_blast.proofs.blasted.environment_of.Goals as goal

pub returns-clause-zero : goal.returns-clause-zero
returns-clause-zero c nodes term clauses =
    zero_in (truth_of c.args.assignment.now) (record { clauses = clauses; sources = c.args.sources.now }) c.words_of.result c.words_of.ensures nodes term
