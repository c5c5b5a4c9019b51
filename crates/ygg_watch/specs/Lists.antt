-- Lists of watches. Node 2 * k and node 2 * k + 1 are the two watches of clause k, and a list goes from each node to the next by its number plus 1.
use Rattle.std.specs.Prelude.{◌≡◌, ◌≢◌, ℕ, suc, ◌<◌, ◌+◌, ◌-◌, ◌%◌, ◌/◌, false, cond, eqb, List, [], ◌∷◌, length, get_or, Contains, ◌⊎◌, slice_get, Some}
use Rattle.ygg_cnf_set.specs.LiteralSet.{code_of}
use Rattle.ygg_cnf.specs.declared.lit.Lit.{Lit}

-- the other watch of the same clause
abbrev pub sibling : ℕ → ℕ
sibling n = cond (eqb (n % 2) 0) (n + 1) (n - 1)

-- what stands where a list has no literal
abbrev pub no_lit : Lit
no_lit = record { var = 0; negated = false }

-- the literal that a node watches
abbrev pub lit_of : List Lit → ℕ → Lit
lit_of watched n = get_or watched n no_lit

-- the two watches of the node's clause are of two literals
abbrev pub IsLinked : List Lit → ℕ → Type 0
IsLinked watched n = lit_of watched n ≢ lit_of watched (sibling n)

-- the node watches the literal of the code
abbrev pub IsOwn : List Lit → ℕ → ℕ → Type 0
IsOwn watched c n = (n < length watched) × (IsLinked watched n × (code_of (lit_of watched n) ≡ c))

-- the number stands in the list
abbrev pub Among : List ℕ → ℕ → Type 0
Among [] n = ⊥
Among (x ∷ xs) n = (x ≡ n) ⊎ Among xs n

-- no number stands in the list twice
abbrev pub IsOnce : List ℕ → Type 0
IsOnce [] = Unit {0}
IsOnce (x ∷ xs) = (Among xs x → ⊥) × IsOnce xs

-- the nodes that a number leads to
abbrev pub IsPath : List ℕ → ℕ → List ℕ → Type 0
IsPath next n [] = n ≡ 0
IsPath next n (x ∷ xs) = (n ≡ suc x) × IsPath next (get_or next x 0) xs

-- the list of a literal has the nodes that watch it, but those that are pending
pub record IsList (next : List ℕ) (watched : List Lit) (pending : List ℕ) (first c : ℕ) : Type 0 where
  pub nodes : List ℕ
  pub path : IsPath next first nodes
  pub once : IsOnce nodes
  pub own : (n : ℕ) → Among nodes n → IsOwn watched c n
  pub apart : (n : ℕ) → Among nodes n → Among pending n → ⊥
  pub whole : (n : ℕ) → IsOwn watched c n → (Among pending n → ⊥) → Among nodes n

-- each literal's list has the nodes that watch it, but those that are pending
abbrev pub IsLists : List ℕ → List Lit → List ℕ → List ℕ → Type 0
IsLists next watched firsts pending = (c : ℕ) → c < length firsts → IsList next watched pending (get_or firsts c 0) c

-- the pending nodes all watch one literal
pub record IsPending (next : List ℕ) (watched : List Lit) (at c : ℕ) (pending : List ℕ) : Type 0 where
  pub path : IsPath next at pending
  pub once : IsOnce pending
  pub own : (n : ℕ) → Among pending n → IsOwn watched c n

-- each watched literal is one of its clause
abbrev pub IsMember : List (List Lit) → List Lit → Type 0
IsMember clauses watched = (n : ℕ) (clause : List Lit) → n < length watched → IsLinked watched n → slice_get clauses (n / 2) ≡ Some clause →
    Contains clause (lit_of watched n)
