-- What the end of a search says of the clauses.
use Rattle.std.specs.Prelude.{ℕ, ◌≤◌, List, length, map, All}
use Rattle.ygg_cnf.specs.Literals.{SatisfiesAll}
use Rattle.ygg_cnf.specs.Logs.{clause_of, Refutes, SpentLog}
use Rattle.ygg_cnf.specs.declared.lit.Lit.{Lit}
use Rattle.ygg_watch.specs.Assignments.{IsTrail}
use Rattle.ygg_watch.specs.declared.entry.Entry.{Entry}
use Rattle.ygg_watch.specs.Propagation.{IsWithin}
use Rattle.ygg_solver.specs.Kept.{trail_value}
use Rattle.ygg_solver.specs.declared.searching.SearchEnd.{SearchEnd}
use Rattle.ygg_solver.specs.declared.searching.SearchEnd.TheVariants as end

-- the end of a search is true of the clauses and the budget; it leaves the values in the trail, and no clause of its log has a variable from room on
abbrev pub IsEnd : List (List Lit) → List Entry → ℕ → ℕ → SearchEnd → Type 0
IsEnd clauses trail variable_count budget end.Model = IsTrail trail variable_count × SatisfiesAll (trail_value trail) clauses
IsEnd clauses trail variable_count budget (end.Refuted log) = Refutes clauses log × ((length log ≤ budget) × All (IsWithin variable_count) (map clause_of log))
IsEnd clauses trail variable_count budget (end.Spent log) = SpentLog clauses log budget × All (IsWithin variable_count) (map clause_of log)
