-- The steps of a log over clauses whose literals may be written may be written too.
use Rattle.std.proofs.Common.{◌≡◌, ℕ, zero, suc, ◌+◌, ◌^◌, ◌<◌, ◌≤◌, List, [], ◌∷◌, ◌++◌, length, refl, arith, inl, inr}
use Rattle.std.specs.Prelude.{All, Contains}
use Rattle.std.proofs.lemmas.List.{length-append}
use Rattle.std.proofs.lemmas.List.Elements.{All-nil, All-cons, All-push, All-contains, All-weaker}
use Rattle.ygg_cnf.specs.declared.lit.Lit.{Lit}
use Rattle.ygg_cnf.specs.declared.log.Step.{Step}
use Rattle.ygg_cnf.specs.declared.log.Step.TheVariants.{Added}
use Rattle.ygg_cnf.specs.Derivations.{HasClause, DerivesClause, Resolves, Resolvent}
use Rattle.ygg_cnf.specs.Logs.{clause_of, chain_of, Derives}
use Rattle.ygg_cnf.proofs.Soundness.{numbered_among, chain_within}
use Rattle.ygg_cnf.specs.Steps.{IsNumber, IsLiteral, IsStep}

-- what holds of each literal that a clause has
all_from : (clause : List Lit) → ((y : Lit) → Contains clause y → IsLiteral y) → All IsLiteral clause
all_from [] each = All-nil IsLiteral
all_from (x ∷ clause) each =
    All-cons IsLiteral x clause (each x (zero, omega arith, refl)) (all_from clause (λ y has. each y (suc has.0, omega (arith, has.1), has.2)))

-- a clause that is derived has literals of clauses that are named
resolved : (held : ℕ → List Lit → Type 0) (set : Lit → Type 0) (ids : List ℕ) (clause : List Lit) →
    ((id : ℕ) (named : List Lit) → held id named → All IsLiteral named) →
    ((y : Lit) → set y → IsLiteral y) → Resolves held set ids clause
    → All IsLiteral clause
resolved held set [] clause named each same = all_from clause (λ y has. each y ((same y).1 has))
resolved held set (id ∷ ids) clause named each (next, (is, (x, (pivot, rest)))) = resolved held (Resolvent set next x) ids clause named each_next rest
  where
    each_next : (y : Lit) → Resolvent set next x y → IsLiteral y
    each_next y (inl was) = each y was.0
    each_next y (inr new) = All-contains IsLiteral next y (named id next is) new.0

derived : (held : ℕ → List Lit → Type 0) (chain : List ℕ) (clause : List Lit) → ((id : ℕ) (named : List Lit) → held id named → All IsLiteral named) →
    DerivesClause held chain clause
    → All IsLiteral clause
derived held [] clause named derives = absurd derives
derived held (id ∷ ids) clause named (first, (is, rest)) =
    resolved held (Contains first) ids clause named (λ y has. All-contains IsLiteral first y (named id first is) has) rest

-- a step of a log
one_step : (clauses : List (List Lit)) (step : Step) → All (All IsLiteral) clauses → length clauses < 2 ^ 64 →
    DerivesClause (HasClause clauses) (chain_of step) (clause_of step)
    → IsStep step
one_step clauses (Added clause chain) may few derives = record {
  literals = derived (HasClause clauses) chain clause (λ id named has. All-contains (All IsLiteral) clauses named may
      (numbered_among clauses id named has)) derives;
  numbers =
      All-weaker (λ id. (0 < id) × (id ≤ length clauses)) IsNumber
      (λ id within. (within.0, omega (arith, within.1, few))) chain (chain_within clauses chain clause derives);
}

pub steps_may : (clauses : List (List Lit)) (log : List Step) → All (All IsLiteral) clauses → length clauses + length log < 2 ^ 64 → Derives clauses log
    → All IsStep log
steps_may clauses [] may few derives = All-nil IsStep
steps_may clauses (step ∷ log) may few derives =
    let one : IsStep step = one_step clauses step may (omega arith) derives.0 in
    let more : length (clauses ++ clause_of step ∷ []) ≡ length clauses + 1 = length-append clauses (clause_of step ∷ []) in
    All-cons IsStep step log one
    (steps_may (clauses ++ clause_of step ∷ []) log (All-push (All IsLiteral) clauses (clause_of step) may (literals_in step one))
    (omega (arith, more, few)) derives.1)
  where
    literals_in : (s : Step) → IsStep s → All IsLiteral (clause_of s)
    literals_in s is = is.literals
