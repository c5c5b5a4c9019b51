-- One more entry of a log.
use Rattle.std.proofs.lemmas.List.Elements.{All-tail}
use Rattle.std.proofs.Common.{All, ◌≡◌, ℕ, List, [], ◌∷◌, ◌++◌, map, sym, subst, ap, refl, append_assoc, append-nil}
use Rattle.ygg_cnf.specs.Derivations.{HasClause, DerivesClause}
use Rattle.ygg_cnf.specs.Logs.{Derives, EachTeaches, Teaches, clause_of, chain_of, EndsEmpty}
use Rattle.ygg_cnf.specs.declared.lit.Lit.{Lit}
use Rattle.ygg_cnf.specs.declared.log.Step.{Step}
use Rattle.ygg_cnf.specs.declared.log.Step.TheVariants.{Added}

pub derives_push : (clauses : List (List Lit)) (log : List Step) (step : Step) → Derives clauses log
    → DerivesClause (HasClause (clauses ++ map clause_of log)) (chain_of step) (clause_of step) → Derives clauses (log ++ step ∷ [])
derives_push clauses [] step h d = (subst (λ l. DerivesClause (HasClause l) (chain_of step) (clause_of step)) (append-nil clauses) d, tt)
derives_push clauses (s ∷ log) step h d = (
  h.0,
  derives_push (clauses ++ clause_of s ∷ []) log step h.1
      (subst (λ l. DerivesClause (HasClause l) (chain_of step) (clause_of step)) (sym (append_assoc clauses (clause_of s ∷ []) (map clause_of log))) d),
)

pub teaches_push : (clauses : List (List Lit)) (log : List Step) (step : Step) → EachTeaches clauses log
    → Teaches (clauses ++ map clause_of log) (clause_of step) → EachTeaches clauses (log ++ step ∷ [])
teaches_push clauses [] step h d = (subst (λ l. Teaches l (clause_of step)) (append-nil clauses) d, tt)
teaches_push clauses (s ∷ log) step h d = (
  h.0,
  teaches_push (clauses ++ clause_of s ∷ []) log step h.1
      (subst (λ l. Teaches l (clause_of step)) (sym (append_assoc clauses (clause_of s ∷ []) (map clause_of log))) d),
)

pub map_push : (log : List Step) (step : Step) → map clause_of (log ++ step ∷ []) ≡ map clause_of log ++ clause_of step ∷ []
map_push [] step = refl
map_push (s ∷ log) step = ap (λ l. clause_of s ∷ l) (map_push log step)

pub derives_as : (clauses held : List (List Lit)) (chain given : List ℕ) (clause wanted : List Lit) → held ≡ clauses → given ≡ chain → clause ≡ wanted
    → DerivesClause (HasClause held) given clause → DerivesClause (HasClause clauses) chain wanted
derives_as clauses held chain given clause wanted e f h d =
    subst (λ (l : List (List Lit)). DerivesClause (HasClause l) chain wanted) e
    (subst (λ (n : List ℕ). DerivesClause (HasClause held) n wanted) f (subst (λ (w : List Lit). DerivesClause (HasClause held) given w) h d))

pub ends_empty : (log : List Step) (clause : List Lit) (chain : List ℕ) → clause ≡ [] → EndsEmpty (log ++ Added clause chain ∷ [])
ends_empty log clause chain e = (log, (Added clause chain, (refl, e)))

pub learned_more : (given held after : List (List Lit)) (log longer : List Step) (step : Step) (kept : List Lit)
    → held ≡ given ++ map clause_of log → after ≡ held ++ kept ∷ [] → longer ≡ log ++ step ∷ [] → kept ≡ clause_of step
    → after ≡ given ++ map clause_of longer
learned_more given held after log longer step kept e f h k =
    rw (f, e, h, k, map_push log step) (append_assoc given (map clause_of log) (clause_of step ∷ []))

pub all_back : {X : Type 0} (P : X → Type 0) (xs ys : List X) → All P (xs ++ ys) → All P ys
all_back P [] ys a = a
all_back P (x ∷ xs) ys a = all_back P xs ys (All-tail P x (xs ++ ys) a)
