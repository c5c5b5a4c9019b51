use Rattle.std.proofs.Common.{◌≡◌, inl, inr, ◌⊎◌, ⊎_elim, List, ℕ, drop, ◌+◌, [], refl, sym, subst, ◌∙◌}
use Rattle.std.proofs.lemmas.Bool.{false≢true}
use Rattle.std.proofs.lemmas.List.{drop_all, take_all}
use Rattle.ygg_cnf.specs.Derivations.{Resolves}
use Rattle.ygg_chain.specs.Held.{IsKept, Holds, InSetAs, IsNamed}
use Rattle.ygg_cnf_set.specs.LiteralSet.{InSet}
use Rattle.ygg_chain.proofs.HeldLemmas.{next_number, named_more, named_front}
use Rattle.ygg_chain.proofs.checker.resolve_rest.Goals as goal

pub returns-then-not-resolve_next-clause-exact : goal.returns-then-not-resolve_next-clause-exact
returns-then-not-resolve_next-clause-exact c clause =
    let rest : List ℕ = drop (c.loop-id.id-index + 1) c.args.ids.now in
    let e = next_number c.args.ids.now c.loop-id.id-index c.loop-id-test.true in (
      (λ r. let p = (c.resolve_next.ensures.exact rest clause).0
          (subst (λ (l : List ℕ). Resolves (Holds c.args.store.now.variables c.args.store.now.clauses)
          (InSetAs c.args.store.now.variables c.loop-id.seen) l clause)
          e ((c.loop-id.invariant.exact clause).0 r)) in
          absurd (false≢true (sym c.if-not-resolve_next.true ∙ p.0))),
      (λ p. absurd (false≢true p.0)),
    )

pub loop-id-preserved : goal.loop-id-preserved
loop-id-preserved c =
    let rest : List ℕ = drop (c.loop-id.id-index + 1) c.args.ids.now in
    let e = next_number c.args.ids.now c.loop-id.id-index c.loop-id-test.true in
    record {
      exact = λ clause.
          let step = c.resolve_next.ensures.exact rest clause in (
            (λ r. (step.0
                (subst (λ (l : List ℕ). Resolves (Holds c.args.store.now.variables c.args.store.now.clauses)
                (InSetAs c.args.store.now.variables c.loop-id.seen) l clause)
                e ((c.loop-id.invariant.exact clause).0 r))).1),
            (λ r. (c.loop-id.invariant.exact clause).1
                (subst (λ (l : List ℕ). Resolves (Holds c.args.store.now.variables c.args.store.now.clauses)
                (InSetAs c.args.store.now.variables c.loop-id.seen) l clause)
                (sym e) (step.1 (c.if-not-resolve_next.false, r)))),
          );
      counted = c.resolve_next.ensures.counted;
      named = λ y m.
          ⊎_elim
          (λ n. ⊎_elim (λ b. inl b) (λ k. inr ((named_more c.args.store.now.clauses c.args.ids.now c.loop-id.id-index y c.loop-id-test.true).1 (inl k)))
          (c.loop-id.invariant.named y n))
          (λ k. inr ((named_more c.args.store.now.clauses c.args.ids.now c.loop-id.id-index y c.loop-id-test.true).1 (inr k)))
          (c.resolve_next.ensures.named y m);
    }

pub returns-clause-exact : goal.returns-clause-exact
returns-clause-exact c clause =
    let e : drop c.loop-id.id-index c.args.ids.now ≡ [] = drop_all c.loop-id.id-index c.args.ids.now c.loop-id-test.false in (
      (λ r. (
        refl,
        subst (λ (l : List ℕ). Resolves (Holds c.args.store.now.variables c.args.store.now.clauses)
            (InSetAs c.args.store.now.variables c.loop-id.seen) l clause)
            e ((c.loop-id.invariant.exact clause).0 r),
      )),
      (λ p. (c.loop-id.invariant.exact clause).1
          (subst (λ (l : List ℕ). Resolves (Holds c.args.store.now.variables c.args.store.now.clauses)
          (InSetAs c.args.store.now.variables c.loop-id.seen) l clause)
          (sym e) p.1)),
    )

pub loop-id-init : goal.loop-id-init
loop-id-init c = record { exact = λ clause. ((λ r. r), (λ r. r)); counted = c.requires.counted; named = λ y m. inl m }

pub resolve_next-requires-clause-kept : goal.resolve_next-requires-clause-kept
resolve_next-requires-clause-kept c = subst (λ n. IsKept c.args.store.now.variables c.args.store.now.clauses n) (sym c.loop-id.auto.seen) c.requires.kept

pub resolve_next-requires-clause-counted : goal.resolve_next-requires-clause-counted
resolve_next-requires-clause-counted c = c.loop-id.invariant.counted

pub returns-then-not-resolve_next-clause-named : goal.returns-then-not-resolve_next-clause-named
returns-then-not-resolve_next-clause-named c y m =
    let more = (named_more c.args.store.now.clauses c.args.ids.now c.loop-id.id-index y c.loop-id-test.true).1 in
    let front = named_front c.args.store.now.clauses c.args.ids.now (c.loop-id.id-index + 1) y in
    ⊎_elim (λ n. ⊎_elim (λ b. inl b) (λ k. inr (front (more (inl k)))) (c.loop-id.invariant.named y n)) (λ k. inr (front (more (inr k))))
    (c.resolve_next.ensures.named y m)

pub returns-clause-named : goal.returns-clause-named
returns-clause-named c y m =
    subst (λ (l : List ℕ). InSet c.args.seen.now y ⊎ IsNamed c.args.store.now.clauses l y)
    (take_all c.loop-id.id-index c.args.ids.now c.loop-id-test.false) (c.loop-id.invariant.named y m)

pub returns-clause-counted : goal.returns-clause-counted
returns-clause-counted c = c.loop-id.invariant.counted
