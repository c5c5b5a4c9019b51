use Rattle.std.proofs.Common.{List, [], Contains, sym, subst}
use Rattle.ygg_cnf.specs.declared.lit.Lit.{Lit}
use Rattle.ygg_chain.proofs.HeldLemmas.{empty_held}
use Rattle.ygg_chain.proofs.checker.Checker.refuted.Goals as goal

pub returns : goal.returns
returns c =
    let e = empty_held c.self.inside.store.variables c.self.inside.store.clauses in (
      (λ t. subst (λ (l : List (List Lit)). Contains l []) c.self.view_is (e.0 (c.has_empty.ensures.0 t))),
      (λ h. c.has_empty.ensures.1 (e.1 (subst (λ (l : List (List Lit)). Contains l []) (sym c.self.view_is) h))),
    )
