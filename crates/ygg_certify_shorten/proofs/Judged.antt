-- What holds of the first steps of a log, one after another, while a checker takes them.
use Rattle.std.proofs.Common.{
  ◌≡◌,
  ℕ,
  ◌+◌,
  ◌<◌,
  ◌≤◌,
  Bool,
  List,
  [],
  ◌∷◌,
  ◌++◌,
  length,
  map,
  take,
  get_or,
  sym,
  subst,
  refl,
  inr,
  IsTrue,
  false,
  true≢false,
  append-nil,
}
use Rattle.std.proofs.lemmas.List.{take_more, take_all}
use Rattle.ygg_cnf.specs.Derivations.{DerivesClause, HasClause}
use Rattle.ygg_cnf.specs.Logs.{Derives, EndsEmpty, Refutes, chain_of, clause_of}
use Rattle.ygg_cnf.specs.declared.lit.Lit.{Lit}
use Rattle.ygg_cnf.specs.declared.log.Step.{Step}
use Rattle.ygg_cnf.proofs.LogLemmas.{derives_push, learned_more}

-- the checker holds the clauses and those of the steps, each of which is derived, and the last one is empty where that is said
pub record AreTaken (clauses held : List (List Lit)) (steps : List Step) (is_empty : Bool) : Type 0 where
  pub held_are : held ≡ clauses ++ map clause_of steps
  pub derives : Derives clauses steps
  pub ends : IsTrue is_empty → EndsEmpty steps

-- before the first step
pub none_taken : (clauses : List (List Lit)) → AreTaken clauses clauses [] false
none_taken clauses = record {
  held_are = sym (append-nil clauses);
  derives = tt;
  ends = λ is. absurd (true≢false (sym is));
}

-- one step more
pub more_taken : (clauses held after : List (List Lit)) (log : List Step) (i : ℕ) (step : Step) (was_empty is_empty : Bool) → i < length log →
    step ≡ get_or log i step → AreTaken clauses held (take i log) was_empty → DerivesClause (HasClause held) (chain_of step) (clause_of step) →
    after ≡ held ++ clause_of step ∷ [] → (IsTrue is_empty → clause_of step ≡ []) → AreTaken clauses after (take (i + 1) log) is_empty
more_taken clauses held after log i step was_empty is_empty within here taken derived holds empty =
    let longer : take (i + 1) log ≡ take i log ++ step ∷ [] =
    subst (λ (z : Step). take (i + 1) log ≡ take i log ++ z ∷ []) (sym here) (take_more log i step within) in
    subst (λ (steps : List Step). AreTaken clauses after steps is_empty) (sym longer) (record {
      held_are = learned_more clauses held after (take i log) (take i log ++ step ∷ []) step (clause_of step) taken.held_are holds refl refl;
      derives =
          derives_push clauses (take i log) step taken.derives
          (subst (λ (cs : List (List Lit)). DerivesClause (HasClause cs) (chain_of step) (clause_of step)) taken.held_are derived);
      ends = λ is. (take i log, (step, (refl, empty is)));
    })

-- all steps
pub all_taken : (clauses held : List (List Lit)) (log : List Step) (i : ℕ) (is_empty : Bool) → length log ≤ i → AreTaken clauses held (take i log) is_empty →
    IsTrue is_empty → Refutes clauses log
all_taken clauses held log i is_empty past taken is =
    let all : AreTaken clauses held log is_empty = subst (λ (steps : List Step). AreTaken clauses held steps is_empty) (take_all i log past) taken in
    record { derives = all.derives; empty = inr (all.ends is) }
