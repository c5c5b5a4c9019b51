use Rattle.std.proofs.Common.{List, [], Contains, sym, subst}
use Rattle.ygg_cnf.specs.declared.lit.Lit.{Lit}
use Rattle.ygg_chain.specs.Arena.{HasEmpty}
use Rattle.ygg_chain.proofs.ArenaLemmas.{empty_stored}
use Rattle.ygg_chain.proofs.arena.ClauseArena.has_empty.Goals as goal

pub returns : goal.returns
returns c =
    let e = empty_stored c.self.inside.lits.items c.self.inside.stored.items c.self.invariant in (
      (λ t. subst (λ (l : List (List Lit)). Contains l []) c.self.view_is (e.0 (subst HasEmpty c.as_slice.ensures.value (c.any_empty.ensures.0 t)))),
      (λ h. c.any_empty.ensures.1
          (subst HasEmpty (sym c.as_slice.ensures.value) (e.1 (subst (λ (l : List (List Lit)). Contains l []) (sym c.self.view_is) h)))),
    )
