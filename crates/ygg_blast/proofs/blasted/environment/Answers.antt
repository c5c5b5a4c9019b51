use Rattle.ygg_blast.proofs.blasted.environment.Goals as goal

pub returns-clause-zero : goal.returns-clause-zero
returns-clause-zero c nodes term =
    rw (← c.blasted.view_is) (c.environment_of.ensures.zero nodes term c.blasted.inside.clauses)
