-- What solving clauses comes to, and what is printed of it.
use Rattle.std.specs.Prelude.{◌≡◌, ◌⊎◌, ℕ, zero, suc, ◌≤◌, Bool, not, List, [], ◌∷◌, ◌++◌, length, codes}
use Rattle.ygg_base.specs.declared.status.Status.{Status}
use Rattle.ygg_base.specs.declared.status.Status.TheVariants.{Done, Undecided}
use Rattle.ygg_solver.specs.ygg_cnf.declared.lit.Lit.{Lit}
use Rattle.ygg_solver.specs.ygg_cnf.declared.log.Step.{Step}
use Rattle.ygg_solver.specs.ygg_cnf.Literals.{SatisfiesAll}
use Rattle.ygg_solver.specs.ygg_cnf.Logs.{Refutes, SpentLog}
use Rattle.ygg_report.specs.Lines.{undecided_line}
use Rattle.ygg_cnf.specs.Lines.{literal_words}
use Rattle.ygg_cnf.specs.Pieces.{log_lines}
use Rattle.ygg_dimacs.specs.declared.cnf.Cnf.{Cnf}

-- the literal of a variable that is true under these truth values
abbrev pub true_literal : (ℕ → Bool) → ℕ → Lit
true_literal value variable = record { var = variable; negated = not (value variable) }

-- the true literals of the variables from 1 to this one, in order
abbrev pub true_literals : (ℕ → Bool) → ℕ → List Lit
true_literals value zero = []
true_literals value (suc n) = true_literals value n ++ true_literal value (suc n) ∷ []

-- that clauses are satisfiable, with the true literals of so many variables
abbrev pub satisfiable_text : (ℕ → Bool) → ℕ → List ℕ
satisfiable_text value variables = codes "satisfiable\nv " ++ literal_words (true_literals value variables) ++ codes "0\n"

-- that clauses are unsatisfiable, with the log
abbrev pub unsatisfiable_text : List Step → List ℕ
unsatisfiable_text log = codes "unsatisfiable\n" ++ log_lines log ++ codes "e\n"

-- truth values that satisfy each clause, printed
pub record IsSatisfied (c : Cnf) (text : List ℕ) : Type 0 where
  pub value : ℕ → Bool
  pub satisfies : SatisfiesAll value c.clauses
  pub is : text ≡ satisfiable_text value c.variables

-- a log of at most so many clauses that refutes them, printed
pub record IsRefuted (c : Cnf) (budget : ℕ) (text : List ℕ) : Type 0 where
  pub log : List Step
  pub refutes : Refutes c.clauses log
  pub few : length log ≤ budget
  pub is : text ≡ unsatisfiable_text log

-- a log of exactly so many clauses, each of which teaches; it isn't printed
pub record IsSpent (c : Cnf) (budget : ℕ) (text : List ℕ) : Type 0 where
  pub log : List Step
  pub spends : SpentLog c.clauses log budget
  pub is : text ≡ undecided_line

-- how solving clauses within a budget ends, and its text
abbrev pub Solved : Cnf → ℕ → Status → List ℕ → Type 0
Solved c budget Done text = IsSatisfied c text ⊎ IsRefuted c budget text
Solved c budget Undecided text = IsSpent c budget text
Solved c budget status text = ⊥
