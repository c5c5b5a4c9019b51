-- What an answer says of the clauses.
use Rattle.std.specs.Prelude.{ℕ, ◌<◌, ◌≤◌, List, length, All}
use Rattle.ygg_cnf.specs.Literals.{SatisfiesAll, truth_of}
use Rattle.ygg_cnf.specs.Logs.{Refutes, SpentLog}
use Rattle.ygg_cnf.specs.declared.lit.Lit.{Lit}
use Rattle.ygg_solver.specs.declared.answer.Answer.{Answer}
use Rattle.ygg_solver.specs.declared.answer.Answer.TheVariants.{Sat, Unsat, Spent}

-- variables are numbered from 1
abbrev pub IsNumbered : List (List Lit) → Type 0
IsNumbered clauses = All (All (λ (x : Lit). 0 < x.var)) clauses

-- the answer is true of the clauses and the budget
abbrev pub IsAnswer : List (List Lit) → ℕ → Answer → Type 0
IsAnswer clauses budget (Sat assignment) = SatisfiesAll (truth_of assignment) clauses
IsAnswer clauses budget (Unsat log) = Refutes clauses log × (length log ≤ budget)
IsAnswer clauses budget (Spent log) = SpentLog clauses log budget
