use Rattle.std.proofs.Common.{inl, inr, ⊎_elim, List, ℕ, length, sym, subst}
use Rattle.std.proofs.lemmas.Bool.{false≢true}
use Rattle.ygg_cnf.specs.Derivations.{HasClause, DerivesClause}
use Rattle.ygg_chain.specs.Held.{Holds, IsNamed}
use Rattle.ygg_chain.proofs.HeldLemmas.{no_first, kept_first, fits_numbered, named_first}
use Rattle.ygg_chain.proofs.checker.resolve_chain.Goals as goal

pub returns-in_default-numbered-clause-exact : goal.returns-in_default-numbered-clause-exact
returns-in_default-numbered-clause-exact c clause = (
  (λ d. absurd (no_first c.args.store.now.variables c.args.store.now.clauses c.in-Some.first.now c.in-Some.rest.now clause c.in_default-numbered.ensures
      (subst (λ (l : List ℕ). DerivesClause (Holds c.args.store.now.variables c.args.store.now.clauses) l clause) c.in-Some.ensures.cases.0 d))),
  (λ p. absurd (false≢true p.0)),
)

pub insert_all-requires-clause-fits : goal.insert_all-requires-clause-fits
insert_all-requires-clause-fits c =
    fits_numbered c.args.store.now.variables c.args.store.now.clauses (length c.args.seen.now) c.in-Some.first.now c.as_slice.result.now
    c.requires.kept (subst (HasClause c.args.store.now.clauses c.in-Some.first.now) (sym c.as_slice.ensures) c.in-Some-numbered.ensures)

pub returns-clause-exact : goal.returns-clause-exact
returns-clause-exact c clause =
    let step = kept_first c.args.store.now.variables c.args.store.now.clauses (length c.args.seen.now) c.requires.kept c.insert_all.new.seen
    c.in-Some.first.now c.in-Some.rest.now c.as_slice.result.now clause
    (subst (HasClause c.args.store.now.clauses c.in-Some.first.now) (sym c.as_slice.ensures) c.in-Some-numbered.ensures)
    (λ y. (
      (λ m. ⊎_elim (λ n. absurd ((c.requires.clear y).0 n)) (λ d. d) ((c.insert_all.ensures.set y).0 m)),
      (λ d. (c.insert_all.ensures.set y).1 (inr d)),
    )) in
    let rest = c.resolve_rest.ensures.exact clause in (
      (λ d. rest.0 (step.0 (subst (λ (l : List ℕ). DerivesClause (Holds c.args.store.now.variables c.args.store.now.clauses) l clause)
          c.in-Some.ensures.cases.0 d))),
      (λ p. subst (λ (l : List ℕ). DerivesClause (Holds c.args.store.now.variables c.args.store.now.clauses) l clause) (sym c.in-Some.ensures.cases.0)
          (step.1 (rest.1 p))),
    )

pub returns-clause-named : goal.returns-clause-named
returns-clause-named c y m =
    subst (λ (l : List ℕ). IsNamed c.args.store.now.clauses l y) (sym c.in-Some.ensures.cases.0)
    (named_first c.args.store.now.clauses c.in-Some.first.now c.in-Some.rest.now y
    (⊎_elim
    (λ n. ⊎_elim (λ b. absurd ((c.requires.clear y).0 b)) (λ d. inl
    (c.as_slice.result.now, ((subst (HasClause c.args.store.now.clauses c.in-Some.first.now) (sym c.as_slice.ensures) c.in-Some-numbered.ensures), d)))
    ((c.insert_all.ensures.set y).0 n))
    (λ k. inr k)
    (c.resolve_rest.ensures.named y m)))
