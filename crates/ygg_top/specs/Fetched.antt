-- The clauses of which a text stands under a name.
use Rattle.std.specs.Prelude.{ℕ, List, Option, Some}
use Rattle.ygg_base.specs.declared.lists.Held.{Held}
use Rattle.ygg_dimacs.specs.declared.cnf.Cnf.{Cnf}
use Rattle.ygg_top_command.specs.declared.stopping.CommandStop.{CommandStop}
use Rattle.ygg_top_command.specs.declared.stopping.CommandStop.TheVariants.{Refused, LibraryFailed, NoMemory}
use Rattle.ygg_top_command.specs.Standing.{Stands}
use Rattle.ygg_top.specs.Solving.{IsTextOfClauses, RefusesClauses}

-- a text of these clauses stands under the name
abbrev pub StandsClauses : Option (List Held) → List ℕ → Cnf → Type 0
StandsClauses files name c = (bytes : List ℕ) × Stands files name (Some bytes) × IsTextOfClauses bytes c

-- why there is no text of clauses under the name that is the first word after the command's: what stands there is refused, or the library failed
abbrev pub IsNoClauses : Option (List Held) → List ℕ → (LibraryRose : Type 0) → CommandStop → Type 0
IsNoClauses files name LibraryRose (Refused r) = (stored : Option (List ℕ)) × Stands files name stored × RefusesClauses stored r
IsNoClauses files name LibraryRose LibraryFailed = LibraryRose
IsNoClauses files name LibraryRose NoMemory = Unit {0}
