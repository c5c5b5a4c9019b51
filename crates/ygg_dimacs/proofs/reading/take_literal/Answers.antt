use Rattle.ygg_dimacs.proofs.Taking.{ends_clause}
use Rattle.ygg_dimacs.proofs.reading.take_literal.Goals as goal

pub returns-then-literal-eq0-clause-goes : goal.returns-then-literal-eq0-clause-goes
returns-then-literal-eq0-clause-goes c w is =
    ends_clause c.args.state.now c.end_clause.new.state w c.args.literal is c.if-literal-eq0.true c.in_ok-end_clause.ensures.left
    c.in_ok-end_clause.ensures.part c.in_ok-end_clause.ensures.done c.end_clause.ensures.variables
