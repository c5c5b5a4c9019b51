-- Clauses taken one after another.
use Rattle.std.proofs.Common.{ℕ, ◌<◌, ◌≤◌, ◌+◌, List, length, take, arith, get_or, All}
use Rattle.std.proofs.lemmas.List.Elements.{All-more, All-weaker}
use Rattle.ygg_cnf.specs.declared.lit.Lit.{Lit}

pub top_more : (clause : List Lit) (i : ℕ) (d : Lit) (old new : ℕ) → i < length clause → All (λ (x : Lit). x.var ≤ old) (take i clause) → old ≤ new →
    (get_or clause i d).var ≤ new
    → All (λ (x : Lit). x.var ≤ new) (take (i + 1) clause)
top_more clause i d old new l a le h =
    All-more (λ (x : Lit). x.var ≤ new) clause i d l (All-weaker (λ (x : Lit). x.var ≤ old) (λ (x : Lit). x.var ≤ new) (λ x k. omega arith) (take i clause) a) h

-- a greater bound serves the clauses before too
pub bound_more : (clauses : List (List Lit)) (i : ℕ) (d : List Lit) (old new : ℕ) → i < length clauses → old ≤ new
    → All (λ w. All (λ (x : Lit). x.var ≤ old) w) (take i clauses) → All (λ (x : Lit). x.var ≤ new) (get_or clauses i d)
    → All (λ w. All (λ (x : Lit). x.var ≤ new) w) (take (i + 1) clauses)
bound_more clauses i d old new l le a h =
    All-more (λ w. All (λ (x : Lit). x.var ≤ new) w) clauses i d l
    (All-weaker (λ w. All (λ (x : Lit). x.var ≤ old) w) (λ w. All (λ (x : Lit). x.var ≤ new) w)
    (λ w b. All-weaker (λ (x : Lit). x.var ≤ old) (λ (x : Lit). x.var ≤ new) (λ x k. omega (arith, k, le)) w b) (take i clauses) a) h
