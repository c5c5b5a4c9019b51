-- What the assigned literals leave of a clause.
use Rattle.std.specs.Prelude.{◌≢◌, List, length, Contains}
use Rattle.ygg_cnf.specs.Derivations.{HasClause}
use Rattle.ygg_cnf.specs.declared.lit.Lit.{Lit}
use Rattle.ygg_watch.specs.Trail.{IsQuietBefore, IsAssigned, IsOnTrail}
use Rattle.ygg_watch.specs.declared.assignments.Assignments.{Assignments}
use Rattle.ygg_watch.specs.declared.entry.Entry.{Entry}
use Rattle.ygg_watch.specs.Propagation.{Propagation, IsFalse, IsConflict}
use Rattle.ygg_watch.specs.declared.status.ClauseStatus.{ClauseStatus}
use Rattle.ygg_watch.specs.declared.status.ClauseStatus.TheVariants.{True, Open, Unit, False}
use Rattle.ygg_watch.specs.declared.spreading.Scanned.{Scanned}
use Rattle.ygg_watch.specs.declared.spreading.Scanned.TheVariants as scan

-- the literal's variable has no value
abbrev pub IsFree : List Entry → Lit → Type 0
IsFree trail x = IsAssigned trail x.var → ⊥

-- the clause has the literal, which is free, and its others are false
abbrev pub IsUnit : List Lit → List Entry → Lit → Type 0
IsUnit clause trail x = Contains clause x × (IsFree trail x × ((y : Lit) → Contains clause y → y ≢ x → IsFalse trail y))

-- the two literals of the clause are free
abbrev pub IsLoose : List Lit → List Entry → Lit → Lit → Type 0
IsLoose clause trail x y = Contains clause x × (Contains clause y × ((x ≢ y) × (IsFree trail x × IsFree trail y)))

-- the status says what is left of the clause
abbrev pub IsStatus : List Lit → List Entry → ClauseStatus → Type 0
IsStatus clause trail (True x) = Contains clause x × IsOnTrail trail x
IsStatus clause trail (Open x y) = IsLoose clause trail x y
IsStatus clause trail (Unit x) = IsUnit clause trail x
IsStatus clause trail False = (y : Lit) → Contains clause y → IsFalse trail y

-- the scan says that each clause is open, that one is false, or that one has a single literal left
abbrev pub IsScanned : List (List Lit) → List Entry → Scanned → Type 0
IsScanned clauses trail scan.Quiet = IsQuietBefore clauses trail (length trail)
IsScanned clauses trail (scan.False id) = IsConflict clauses trail id
IsScanned clauses trail (scan.Unit id x) = (clause : List Lit) × (HasClause clauses id clause × IsUnit clause trail x)

-- the clauses with the assigned literals
abbrev pub state_of : List (List Lit) → Assignments → Propagation
state_of clauses a = record { clauses = clauses; trail = a.entries.items; level = length a.starts.items; variable_count = a.variable_count }
