-- Clauses whose literals stand behind one another in one list.
use Rattle.std.specs.Prelude.{◌≡◌, ℕ, ◌≤◌, ◌-◌, List, map, drop, slice_range, Contains}
use Rattle.ygg_cnf.specs.declared.lit.Lit.{Lit}
use Rattle.ygg_cnf.specs.declared.pattern.Pattern.{Pattern}
use Rattle.ygg_cnf.specs.Patterns.{IsPattern, made}
use Rattle.ygg_chain.specs.declared.arena.Stored.{Stored}
use Rattle.ygg_chain.specs.declared.arena.Stored.TheVariants.{Whole, Made}
use Rattle.ygg_chain.specs.declared.arena.ArenaClause.{ArenaClause}
use Rattle.ygg_chain.specs.declared.arena.ArenaClause.TheVariants as clause

-- the clause is found among so many literals
abbrev pub IsStored : ℕ → Stored → Type 0
IsStored count (Whole from end) = (from ≤ end) × (end ≤ count)
IsStored count (Made from p) = (from ≤ count) × IsPattern (count - from) p

-- the literals of a clause
abbrev pub clause_of : List Lit → Stored → List Lit
clause_of lits (Whole from end) = slice_range lits from end
clause_of lits (Made from p) = made (drop from lits) p

-- the literals of clauses
abbrev pub clauses_of : List Lit → List Stored → List (List Lit)
clauses_of lits stored = map (clause_of lits) stored

-- the clause that a pattern makes of the literals from a place on
abbrev pub made_at : ℕ → Pattern → Stored
made_at from p = Made from p

-- the clause has no literals
abbrev pub HasNone : Stored → Type 0
HasNone (Whole from end) = from ≡ end
HasNone (Made from p) = ⊥

-- one of the clauses has no literals
abbrev pub HasEmpty : List Stored → Type 0
HasEmpty stored = (s : Stored) × (Contains stored s × HasNone s)

-- the literals of a clause of an arena
abbrev pub lits_of : ArenaClause → List Lit
lits_of (clause.Whole lits) = lits.now
lits_of (clause.Two lits) = lits
lits_of (clause.Three lits) = lits
