-- Variables numbered by their places, and what was found for the places read for the variables.
use Rattle.std.specs.Prelude.{◌≡◌, ◌<◌, ℕ, Bool, List, length, map, get_or}
use Rattle.ygg_cnf.specs.declared.log.Step.{Step}
use Rattle.ygg_cnf.specs.declared.log.Step.TheVariants.{Added}
use Rattle.ygg_cnf.specs.Literals.{truth_of}
use Rattle.ygg_chain.specs.Places.{clause_at}
use Rattle.ygg_watch.specs.declared.entry.Entry.{Entry}
use Rattle.ygg_solver.specs.Kept.{trail_value}

-- the entry of the variables that have its places
abbrev pub step_at : List ℕ → Step → Step
step_at variables (Added clause chain) = Added (clause_at variables clause) chain

-- the log of the variables that have its places
abbrev pub log_at : List ℕ → List Step → List Step
log_at variables log = map (step_at variables) log

-- each variable from 1 on has the value that the trail gives its place
abbrev pub GivesValues : List ℕ → List Entry → List Bool → Type 0
GivesValues variables trail values =
    (place : ℕ) → place < length variables → 0 < get_or variables place 0 → truth_of values (get_or variables place 0) ≡ trail_value trail place
