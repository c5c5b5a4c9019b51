-- Clauses counted gate by gate.
use Rattle.std.proofs.Common.{◌≡◌, ◌<◌, ◌≤◌, ℕ, suc, ◌+◌, List, [], ◌∷◌, ◌++◌, length, drop, get_or, max, refl, sym, ap, ◌∙◌, arith}
use Rattle.std.proofs.lemmas.List.{drop_more, drop_all, length-append}
use Rattle.ygg_blast.specs.ygg_cnf.declared.lit.Lit.{Lit}
use Rattle.ygg_blast.specs.ygg_gates.Circuits.{literal}
use Rattle.ygg_blast.specs.ygg_gates.Clauses.{clauses_from, gate_clauses}
use Rattle.ygg_blast.specs.ygg_gates.declared.gate.Gate.{Gate}
use Rattle.ygg_dimacs.specs.declared.counting.ClauseCount.{ClauseCount}
use Rattle.ygg_dimacs.specs.Counted.{greatest_in, greatest_of, between, Counts, IsCountOf}

-- the clauses from a gate on are its own, and those of the gates after it
pub gates_more : (gates : List Gate) (i : ℕ) (g d : Gate) → i < length gates → g ≡ get_or gates i d →
    clauses_from (i + 2) (drop i gates) ≡ gate_clauses (literal (i + 2)) g ++ clauses_from (i + 1 + 2) (drop (i + 1) gates)
gates_more gates i g d l e =
    let place : i + 1 + 2 ≡ suc (i + 2) = omega arith in
    ap (λ z. clauses_from (i + 2) z) (drop_more gates i d l)
    ∙ ap (λ z. gate_clauses (literal (i + 2)) z ++ clauses_from (suc (i + 2)) (drop (i + 1) gates)) (sym e)
    ∙ ap (λ k. gate_clauses (literal (i + 2)) g ++ clauses_from k (drop (i + 1) gates)) (sym place)

-- past the last gate there are none
pub gates_end : (gates : List Gate) (i : ℕ) → length gates ≤ i → clauses_from (i + 2) (drop i gates) ≡ []
gates_end gates i l = ap (λ z. clauses_from (i + 2) z) (drop_all i gates l)

greatest_append : (most : ℕ) (xs ys : List (List Lit)) → greatest_of most (xs ++ ys) ≡ greatest_of (greatest_of most xs) ys
greatest_append most [] ys = refl
greatest_append most (x ∷ xs) ys = greatest_append (greatest_in most x) xs ys

-- the count so far, with what is left, is the whole
pub record Counting (gates : List Gate) (start : ClauseCount) (i : ℕ) (now : ClauseCount) : Type 0 where
  pub clauses : now.clauses + length (clauses_from (i + 2) (drop i gates)) ≡ start.clauses + length (clauses_from 2 gates)
  pub variables : greatest_of now.variables (clauses_from (i + 2) (drop i gates)) ≡ greatest_of start.variables (clauses_from 2 gates)

pub counts_begin : (gates : List Gate) (start : ClauseCount) → Counting gates start 0 start
counts_begin gates start = record { clauses = refl; variables = refl }

pub counts_go : (gates : List Gate) (start : ClauseCount) (i : ℕ) (now : ClauseCount) (g d : Gate) (cs : List (List Lit)) (next : ClauseCount) →
    i < length gates →
    g ≡ get_or gates i d → cs ≡ gate_clauses (literal (i + 2)) g → Counts now next cs → Counting gates start i now → Counting gates start (i + 1) next
counts_go gates start i now g d cs next l e own c s =
    let rest = clauses_from (i + 1 + 2) (drop (i + 1) gates) in
    let all : cs ++ rest ≡ clauses_from (i + 2) (drop i gates) = ap (λ z. z ++ rest) own ∙ sym (gates_more gates i g d l e) in
    let long : length cs + length rest ≡ length (clauses_from (i + 2) (drop i gates)) = sym (length-append cs rest) ∙ ap length all in
    record {
      clauses = omega (arith, c.clauses, long, s.clauses);
      variables = ap (λ k. greatest_of k rest) c.variables ∙ sym (greatest_append now.variables cs rest) ∙ ap (λ z. greatest_of now.variables z) all
          ∙ s.variables;
    }

pub counts_are : (gates : List Gate) (start : ClauseCount) (i : ℕ) (now : ClauseCount) → length gates ≤ i → Counting gates start i now →
    Counts start now (clauses_from 2 gates)
counts_are gates start i now l s =
    let none = gates_end gates i l in
    let short : length (clauses_from (i + 2) (drop i gates)) ≡ 0 = ap length none in
    record {
      clauses = omega (arith, short, s.clauses);
      variables = ap (λ z. greatest_of now.variables z) (sym none) ∙ s.variables;
    }

-- with the two unit clauses
pub all_counted : (gates : List Gate) (goal : Lit) (start all whole : ClauseCount) → start.clauses ≡ 2 → start.variables ≡ 1 →
    Counts start all (clauses_from 2 gates) → whole.clauses ≡ all.clauses → whole.variables ≡ max all.variables goal.var →
    IsCountOf whole (between gates goal)
all_counted gates goal start all whole two first c same most =
    let cs = clauses_from 2 gates in
    let last = (goal ∷ []) ∷ [] in
    let long : length (cs ++ last) ≡ length cs + 1 = length-append cs last in
    record {
      clauses = omega (arith, same, c.clauses, two, long);
      variables = most ∙ ap (λ k. max k goal.var) (c.variables ∙ ap (λ k. greatest_of k cs) first) ∙ sym (greatest_append 1 cs last);
    }
