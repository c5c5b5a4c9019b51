-- How `solve` ends.
use Rattle.std.specs.Prelude.{◌≡◌, ◌⊎◌, ℕ, ◌<◌, ◌≤◌, List, length, Option, Some, None, Ok, Err}
use Rattle.ygg_base.specs.declared.failure.Refusal.{Refusal}
use Rattle.ygg_base.specs.declared.status.Status.{Status}
use Rattle.ygg_dimacs.specs.ygg_report.Putting.{IsCutOf}
use Rattle.ygg_dimacs.specs.ygg_solver.Answers.{IsNumbered}
use Rattle.ygg_dimacs.specs.declared.cnf.Cnf.{Cnf}
use Rattle.ygg_dimacs.specs.Reading.{cnf_of}
use Rattle.ygg_dimacs.specs.Solved.{Solved}
use Rattle.ygg_top_command.specs.Refusing.{RefusesUnread}
use Rattle.ygg_top_command.specs.Standing.{IsRefused}

-- the most bytes of a text of clauses
abbrev pub most_clause_bytes : ℕ
most_clause_bytes = 67108864

-- the bytes are a text of these clauses
pub record IsTextOfClauses (bytes : List ℕ) (c : Cnf) : Type 0 where
  pub small : length bytes ≤ most_clause_bytes
  pub is : cnf_of bytes ≡ Ok c

-- a refusal of the bytes that stand under a name
abbrev pub RefusesBytes : Option (List ℕ) → Refusal → Type 0
RefusesBytes None r = ⊥
RefusesBytes (Some bytes) r = (length bytes ≤ most_clause_bytes) × (cnf_of bytes ≡ Err r)

-- the refusal of the text of clauses of a command, which is the word after it
abbrev pub RefusesClauses : Option (List ℕ) → Refusal → Type 0
RefusesClauses stored r = RefusesUnread most_clause_bytes 1 stored r ⊎ RefusesBytes stored r

-- `solve` within a budget of what stands under the name: it is refused, or it is a text of clauses, and they are solved
abbrev pub Solves : ℕ → Option (List ℕ) → Status → List ℕ → Type 0
Solves budget stored status text =
    ((r : Refusal) × RefusesClauses stored r × IsRefused r status text)
    ⊎ ((bytes : List ℕ) × (c : Cnf) × (stored ≡ Some bytes) × IsTextOfClauses bytes c × Solved c budget status text)

-- Clauses over variables from 1 on are to be solved within a budget, and however that ends, it is this that the command does.
abbrev pub SolvingIs : Cnf → ℕ → (Status → List ℕ → Type 0) → Type 0
SolvingIs c budget Does = (0 < budget) × IsNumbered c.clauses × ((status : Status) (text : List ℕ) → Solved c budget status text → Does status text)

-- solving clauses is what a command does that does this, and this is a front of what comes of it
pub record IsCutSolving (Does : Status → List ℕ → Type 0) (front : List ℕ) : Type 0 where
  pub cnf : Cnf
  pub budget : ℕ
  pub does : SolvingIs cnf budget Does
  pub cut : IsCutOf (Solved cnf budget) front
