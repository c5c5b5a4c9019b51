-- Analysis of a conflict: seen literals are those of the clause so far, and each of them is false.
use Rattle.std.specs.Prelude.{◌≡◌, ◌≢◌, ℕ, ◌<◌, ◌≤◌, Bool, List, ◌++◌, Contains, ◌⊎◌, Some, None, IsSome, length}
use Rattle.ygg_cnf_set.specs.LiteralSet.{InSet}
use Rattle.ygg_cnf.specs.Derivations.{HasClause, Resolves, DerivesClause}
use Rattle.ygg_cnf.specs.Literals.{complement}
use Rattle.ygg_cnf.specs.declared.lit.Lit.{Lit}
use Rattle.ygg_watch.specs.declared.entry.Entry.{Entry}
use Rattle.ygg_watch.specs.Trail.{IsAt, IsFalseBefore, IsReason}

-- no variable is assigned twice, and the clause of each reason has the literal, its others false by earlier entries
pub record IsSound (clauses : List (List Lit)) (trail : List Entry) : Type 0 where
  pub distinct : (p q : ℕ) (d e : Entry) → IsAt trail p d → IsAt trail q e → d.lit.var ≡ e.lit.var → p ≡ q
  pub reasons : (q : ℕ) (e : Entry) (id : ℕ) → IsAt trail q e → e.reason ≡ Some id
      → (clause : List Lit) × IsReason clauses trail q id e.lit clause

-- the complement of the literal of the place is seen
abbrev pub IsSeenAt : List Bool → List Entry → ℕ → Type 0
IsSeenAt seen trail q = (e : Entry) × (IsAt trail q e × InSet seen (complement e.lit))

-- the last seen place from start on and below end
pub record IsLastSeen (seen : List Bool) (trail : List Entry) (start end at : ℕ) : Type 0 where
  pub from : start ≤ at
  pub below : at < end
  pub is_seen : IsSeenAt seen trail at
  pub last : (q : ℕ) → at < q → q < end → IsSeenAt seen trail q → ⊥

-- whatever the seen set goes on to derive, the chain so far and what follows derives
abbrev pub ChainReaches : List (List Lit) → List Bool → List ℕ → Type 0
ChainReaches clauses seen chain =
    (rest : List ℕ) (clause : List Lit) → Resolves (HasClause clauses) (InSet seen) rest clause → DerivesClause (HasClause clauses) (chain ++ rest) clause

-- the place of a decision, after which all is implied
pub record IsLastDecision (trail : List Entry) (at : ℕ) : Type 0 where
  pub decision : (e : Entry) × (IsAt trail at e × (e.reason ≡ None))
  pub implied : (q : ℕ) (e : Entry) → at < q → IsAt trail q e → IsSome e.reason

-- the clause has a literal that is false from the start on, and another one that became false at the level
pub record IsAsserting (trail : List Entry) (clause : List Lit) (start level : ℕ) : Type 0 where
  pub one : Lit
  pub two : Lit
  pub at : ℕ
  pub first : ℕ
  pub entry : Entry
  pub other : Entry
  pub at_is : IsAt trail at entry
  pub one_is : entry.lit ≡ complement one
  pub first_is : IsAt trail first other
  pub two_is : other.lit ≡ complement two
  pub here : Contains clause one
  pub there : Contains clause two
  pub differ : one ≢ two
  pub after : start ≤ at
  pub same : other.level ≡ level

-- where the search may go back to once it has the clause: to the level at which another of its literals became false, or to 0
abbrev pub IsJump : List Entry → List Lit → ℕ → ℕ → Type 0
IsJump trail clause start level = (level ≡ 0) ⊎ IsAsserting trail clause start level

-- the seen set is false, has one place from the start on, and the chain so far reaches it
pub record IsReduced (clauses : List (List Lit)) (seen : List Bool) (trail : List Entry) (start at : ℕ) (chain : List ℕ) : Type 0 where
  pub from : start ≤ at
  pub is_seen : IsSeenAt seen trail at
  pub alone : (y : Lit) → InSet seen y → ((e : Entry) → IsAt trail at e → y ≢ complement e.lit) → IsFalseBefore trail start y
  pub falses : (y : Lit) → InSet seen y → IsFalseBefore trail (length trail) y
  pub reached : ChainReaches clauses seen chain
