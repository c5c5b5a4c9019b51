use Rattle.std.proofs.Common.{◌↔◌, List, IsTrue, subst}
use Rattle.ygg_cnf.specs.declared.lit.Lit.{Lit}
use Rattle.ygg_cnf.specs.Derivations.{HasClause, DerivesClause}
use Rattle.ygg_chain.proofs.checker.Checker.follows.Goals as goal

pub returns-clause-answer : goal.returns-clause-answer
returns-clause-answer c =
    subst (λ (l : List (List Lit)). IsTrue c.judge.result ↔ DerivesClause (HasClause l) c.args.chain.now c.args.clause.now) c.self.view_is
    c.judge.ensures.answer
