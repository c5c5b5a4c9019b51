use Rattle.std.proofs.Common.{sym, subst, ℕ, List, [], ◌∙◌}
use Rattle.ygg_cnf.specs.Derivations.{HasClause, DerivesClause}
use Rattle.ygg_solver.proofs.TeachLemmas.{append-nil}
use Rattle.ygg_watch.proofs.TrailLemmas.{contains_none}
use Rattle.ygg_solver.proofs.analysis.refute.Goals as goal

pub begin-requires-clause-named : goal.begin-requires-clause-named
begin-requires-clause-named c = (c.requires.falses.0, c.requires.falses.1.0)

pub resolve_rest-requires-clause-falses : goal.resolve_rest-requires-clause-falses
resolve_rest-requires-clause-falses c y m =
    let conflict = c.requires.falses in
    conflict.1.1 y ((c.in_ok-chain.ensures.set conflict.0 conflict.1.0 y).0 m)

pub returns : goal.returns
returns c =
    subst (λ (l : List ℕ). DerivesClause (HasClause c.args.clauses.now) l []) (append-nil c.resolve_rest.new.chain.items ∙ sym c.shrink_to_fit.ensures.items)
    (c.in_ok-resolve_rest.ensures.reached [] [] (λ y. ((λ m. absurd (c.in_ok-resolve_rest.ensures.none y m)), (λ d. absurd (contains_none y d)))))
