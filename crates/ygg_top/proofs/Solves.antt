-- From what is fetched to what `solve` does.
use Rattle.std.proofs.Common.{◌<◌, ℕ, List, Option, Some, inl, inr, refl}
use Rattle.ygg_base.specs.declared.lists.Held.{Held}
use Rattle.ygg_base.specs.declared.status.Status.{Status}
use Rattle.ygg_dimacs.specs.ygg_report.Putting.{IsCutOf}
use Rattle.ygg_dimacs.specs.ygg_solver.Answers.{IsNumbered}
use Rattle.ygg_dimacs.specs.declared.cnf.Cnf.{Cnf}
use Rattle.ygg_dimacs.specs.Solved.{Solved}
use Rattle.ygg_top_command.specs.declared.stopping.CommandStop.{CommandStop}
use Rattle.ygg_top_command.specs.declared.stopping.CommandStop.TheVariants.{Refused, LibraryFailed, NoMemory}
use Rattle.ygg_top_command.specs.Fetched.{IsUnread}
use Rattle.ygg_top_command.specs.Reports.{MayStop}
use Rattle.ygg_top_command.specs.Standing.{DoesWith, DoesWithin}
use Rattle.ygg_top_command.specs.Words.{IsBudget}
use Rattle.ygg_top.specs.Fetched.{StandsClauses, IsNoClauses}
use Rattle.ygg_top.specs.Solving.{Solves, IsCutSolving, most_clause_bytes}

module _ (files : Option (List Held)) (name : List ℕ) (LibraryRose : Type 0) where
  -- where nothing is fetched there are no clauses
  pub unread_clauses : (stop : CommandStop) → IsUnread most_clause_bytes 1 files name LibraryRose stop → IsNoClauses files name LibraryRose stop
  unread_clauses (Refused r) unread = (unread.0, unread.1, inl unread.2)
  unread_clauses LibraryFailed unread = unread
  unread_clauses NoMemory unread = tt

  -- a command of clauses where there are none
  pub clauses_stop : (budget : ℕ) (stop : CommandStop) → IsNoClauses files name LibraryRose stop →
      MayStop (DoesWith (Solves budget) files name) LibraryRose stop
  clauses_stop budget (Refused r) none = (none.0, none.1, inl (r, none.2, (refl, refl)))
  clauses_stop budget LibraryFailed none = none
  clauses_stop budget NoMemory none = tt

-- clauses that are solved
pub clauses_read : (files : Option (List Held)) (name : List ℕ) (budget : ℕ) (c : Cnf) → StandsClauses files name c → (ended : Status) (text : List ℕ) →
    Solved c budget ended text → DoesWith (Solves budget) files name ended text
clauses_read files name budget c stands ended text solved = (Some stands.0, stands.1, inr (stands.0, c, refl, stands.2, solved))

-- a front of what comes of solving them
pub front_solved : (files : Option (List Held)) (name : List ℕ) (budget : ℕ) (c : Cnf) → 0 < budget → IsNumbered c.clauses → StandsClauses files name c →
    (front : List ℕ) → IsCutOf (Solved c budget) front → IsCutSolving (DoesWith (Solves budget) files name) front
front_solved files name budget c some numbered stands front cut =
    record { cnf = c; budget = budget; does = (some, numbered, clauses_read files name budget c stands); cut = cut }

module _ (files : Option (List Held)) (name word : List ℕ) (budget : ℕ) (is : IsBudget word budget) where
  -- a word that is a budget
  pub within : (ended : Status) (text : List ℕ) → DoesWith (Solves budget) files name ended text → DoesWithin Solves files name word ended text
  within ended text does = inl (budget, is, does)

  pub front_within : (front : List ℕ) → IsCutSolving (DoesWith (Solves budget) files name) front → IsCutSolving (DoesWithin Solves files name word) front
  front_within front cut = record {
    cnf = cut.cnf;
    budget = cut.budget;
    does = (cut.does.0, cut.does.1, λ ended text solved. within ended text (cut.does.2 ended text solved));
    cut = cut.cut;
  }
