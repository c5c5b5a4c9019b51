-- The text of clauses, which begins with how many they are and their greatest variable.
use Rattle.std.specs.Prelude.{◌≡◌, ℕ, ◌+◌, List, [], ◌∷◌, ◌++◌, length, max}
use Rattle.ygg_blast.specs.ygg_cnf.declared.lit.Lit.{Lit}
use Rattle.ygg_blast.specs.ygg_gates.Circuits.{true_literal}
use Rattle.ygg_blast.specs.ygg_gates.Clauses.{clauses_from}
use Rattle.ygg_blast.specs.ygg_gates.declared.gate.Gate.{Gate}
use Rattle.ygg_dimacs.specs.Reading.{cnf}
use Rattle.ygg_dimacs.specs.Printing.{cnf_text}
use Rattle.ygg_dimacs.specs.declared.counting.ClauseCount.{ClauseCount}

-- the greatest variable of a clause, or this one
abbrev pub greatest_in : ℕ → List Lit → ℕ
greatest_in most [] = most
greatest_in most (x ∷ xs) = greatest_in (max most x.var) xs

-- the greatest variable of clauses, or this one
abbrev pub greatest_of : ℕ → List (List Lit) → ℕ
greatest_of most [] = most
greatest_of most (c ∷ cs) = greatest_of (greatest_in most c) cs

-- the text of clauses over the variables up to their greatest
abbrev pub clauses_text : List (List Lit) → List ℕ
clauses_text clauses = cnf_text (cnf (greatest_of 0 clauses) clauses)

-- the clauses of gates, between the unit clause of variable 1 and that of a goal
abbrev pub between : List Gate → Lit → List (List Lit)
between gates goal = ((true_literal ∷ []) ∷ []) ++ clauses_from 2 gates ++ ((goal ∷ []) ∷ [])

-- a count is another one with these clauses more
pub record Counts (before after : ClauseCount) (all : List (List Lit)) : Type 0 where
  pub clauses : after.clauses ≡ before.clauses + length all
  pub variables : after.variables ≡ greatest_of before.variables all

-- the count of clauses
pub record IsCountOf (total : ClauseCount) (all : List (List Lit)) : Type 0 where
  pub clauses : total.clauses ≡ length all
  pub variables : total.variables ≡ greatest_of 0 all
