-- What a propagation holds, and what its calls make of it.
use Rattle.std.specs.Prelude.{◌≡◌, ℕ, ◌<◌, ◌+◌, not, List, [], ◌∷◌, ◌++◌, length, Contains, All, Some, None}
use Rattle.ygg_cnf.specs.Derivations.{HasClause}
use Rattle.ygg_cnf.specs.declared.lit.Lit.{Lit}
use Rattle.ygg_watch.specs.Trail.{IsAt, IsFalseBefore, IsReason, IsAssigned, keep_level}
use Rattle.ygg_watch.specs.declared.entry.Entry.{Entry}
use Rattle.ygg_watch.specs.declared.found.Assigned.{Assigned}

-- the held clauses, numbered from 1, the assigned literals in order, the greatest open level, and the number that the
-- variables are below
pub record Propagation : Type 0 where
  pub clauses : List (List Lit)
  pub trail : List Entry
  pub level : ℕ
  pub variable_count : ℕ

-- each variable of the clause is below variable_count
abbrev pub IsWithin : ℕ → List Lit → Type 0
IsWithin variable_count clause = All (λ (x : Lit). x.var < variable_count) clause

-- the clauses are held, nothing is assigned and no level is open
pub record IsFresh (clauses : List (List Lit)) (p : Propagation) : Type 0 where
  pub held : p.clauses ≡ clauses
  pub empty : p.trail ≡ []
  pub closed : p.level ≡ 0
  pub within : All (IsWithin p.variable_count) clauses

-- the clause is the next one held
abbrev pub with_clause : Propagation → List Lit → Propagation
with_clause p clause = record p { clauses = p.clauses ++ clause ∷ [] }

-- the next level is open, and the literal is assigned there without reason
abbrev pub decided : Propagation → Lit → Propagation
decided p x = record p { trail = p.trail ++ record { lit = x; level = p.level + 1; reason = None } ∷ []; level = p.level + 1 }

-- the variable is new, and the literal has the greatest open level and a reason among the held clauses
pub record IsImplied (p : Propagation) (e : Entry) : Type 0 where
  pub fresh : IsAssigned p.trail e.lit.var → ⊥
  pub within : e.lit.var < p.variable_count
  pub level : e.level ≡ p.level
  pub reason : (id : ℕ) × ((clause : List Lit) × ((e.reason ≡ Some id) × IsReason p.clauses p.trail (length p.trail) id e.lit clause))

-- each literal in turn is implied
abbrev pub Implies : Propagation → List Entry → Type 0
Implies p [] = Unit {0}
Implies p (e ∷ es) = IsImplied p e × Implies (record p { trail = p.trail ++ e ∷ [] }) es

-- implied literals were assigned, and nothing else changed
abbrev pub Spreads : Propagation → Propagation → Type 0
Spreads old new = (added : List Entry) × (Implies old added × (new ≡ record old { trail = old.trail ++ added }))

-- the levels above this one are closed, and their literals taken away
abbrev pub back_to : Propagation → ℕ → Propagation
back_to p level = record p { trail = keep_level level p.trail; level = level }

-- the literal is false
abbrev pub IsFalse : List Entry → Lit → Type 0
IsFalse trail y = IsFalseBefore trail (length trail) y

-- the held clause of the number is false
abbrev pub IsConflict : List (List Lit) → List Entry → ℕ → Type 0
IsConflict clauses trail id = (clause : List Lit) × (HasClause clauses id clause × ((y : Lit) → Contains clause y → IsFalse trail y))

-- the variable has this value, assigned at this level for this reason
abbrev pub HasValue : List Entry → ℕ → Assigned → Type 0
HasValue trail var assigned =
    (q : ℕ) × ((e : Entry) × (IsAt trail q e
    × ((e.lit ≡ record { var = var; negated = not assigned.value }) × ((e.level ≡ assigned.level) × (e.reason ≡ assigned.reason)))))
