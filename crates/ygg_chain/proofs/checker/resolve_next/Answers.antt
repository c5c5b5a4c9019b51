use Rattle.std.proofs.Common.{length, refl, sym, subst}
use Rattle.ygg_cnf.specs.Derivations.{HasClause}
use Rattle.std.proofs.lemmas.Bool.{false≢true}
use Rattle.std.proofs.lemmas.List.Elements.{All-contains}
use Rattle.ygg_cnf.specs.Literals.{complement}
use Rattle.ygg_cnf_set.specs.LiteralSet.{Fits}
use Rattle.ygg_chain.proofs.HeldLemmas.{no_number, no_pivot, kept_step, fits_numbered}
use Rattle.ygg_chain.proofs.checker.resolve_next.Goals as goal

pub returns-in_default-clause-exact : goal.returns-in_default-clause-exact
returns-in_default-clause-exact c ids clause = (
  (λ r. absurd (no_number c.args.store.now.variables c.args.store.now.clauses
      (length c.args.seen.now) c.requires.kept _ c.args.id ids clause c.in_default.ensures r)),
  (λ p. absurd (false≢true p.0)),
)

pub pivot-requires : goal.pivot-requires
pivot-requires c =
    fits_numbered c.args.store.now.variables c.args.store.now.clauses (length c.args.seen.now) c.args.id c.as_slice-next.result.now c.requires.kept
    (subst (HasClause c.args.store.now.clauses c.args.id) (sym c.as_slice-next.ensures) c.in-Some.ensures)

pub returns-in_default-pivot-clause-exact : goal.returns-in_default-pivot-clause-exact
returns-in_default-pivot-clause-exact c ids clause = (
  (λ r. absurd (no_pivot c.args.store.now.variables c.args.store.now.clauses (length c.args.seen.now) c.requires.kept c.args.seen.now c.args.id ids
      c.as_slice-next.result.now clause (subst (HasClause c.args.store.now.clauses c.args.id) (sym c.as_slice-next.ensures) c.in-Some.ensures)
      c.in_default-pivot.ensures r)),
  (λ p. absurd (false≢true p.0)),
)

pub resolve-requires-clause-fits : goal.resolve-requires-clause-fits
resolve-requires-clause-fits c =
    fits_numbered c.args.store.now.variables c.args.store.now.clauses (length c.args.seen.now) c.args.id c.as_slice-next.result.now c.requires.kept
    (subst (HasClause c.args.store.now.clauses c.args.id) (sym c.as_slice-next.ensures) c.in-Some.ensures)

pub resolve-requires-clause-pivot : goal.resolve-requires-clause-pivot
resolve-requires-clause-pivot c =
    All-contains (Fits (length c.args.seen.now)) c.as_slice-next.result.now (complement c.in-Some-pivot.x)
    (fits_numbered c.args.store.now.variables c.args.store.now.clauses (length c.args.seen.now) c.args.id c.as_slice-next.result.now c.requires.kept
    (subst (HasClause c.args.store.now.clauses c.args.id) (sym c.as_slice-next.ensures) c.in-Some.ensures))
    c.in-Some-pivot.ensures.there

pub returns-clause-exact : goal.returns-clause-exact
returns-clause-exact c ids clause =
    let step = kept_step c.args.store.now.variables c.args.store.now.clauses (length c.args.seen.now) c.requires.kept c.args.seen.now c.resolve.new.seen
    c.args.id ids c.as_slice-next.result.now c.in-Some-pivot.x clause
    (subst (HasClause c.args.store.now.clauses c.args.id) (sym c.as_slice-next.ensures) c.in-Some.ensures) c.in-Some-pivot.ensures c.resolve.ensures.set in
    ((λ r. (refl, step.0 r)), (λ p. step.1 p.1))
