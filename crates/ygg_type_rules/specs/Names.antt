-- Values by name.
use Rattle.std.specs.Prelude.{ℕ, Bool, List, [], ◌∷◌, ◌++◌, Option, Some, None, is_some, if◌then◌else◌}
use Rattle.std.specs.Str.{bytes_eq}

-- values by name, in the order in which the names were added
abbrev pub Named : Type 0 → Type 0
Named V = List (List ℕ × V)

-- the value of a name
abbrev pub look_up : {V : Type 0} → List ℕ → Named V → Option V
look_up name [] = None
look_up name (e ∷ es) = if bytes_eq e.0 name then Some e.1 else look_up name es

-- whether the name is among these
abbrev pub has : {V : Type 0} → List ℕ → Named V → Bool
has name names = is_some (look_up name names)

-- with one more name at the end; a name that is there keeps its value
abbrev pub added : {V : Type 0} → List ℕ → V → Named V → Named V
added name value names = if has name names then names else names ++ (name, value) ∷ []
