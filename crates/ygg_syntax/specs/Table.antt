-- What a table of weights says of each name.
use Rattle.std.specs.Prelude.{ℕ, ◌≡◌, min, if◌then◌else◌, List, [], ◌∷◌, Option, Some, None}
use Rattle.std.specs.Str.{bytes_eq}
use denote.Ref.{Bor}
use Rattle.indexmap.specs.IndexMap.{IndexMap, get_by}
use Rattle.ygg_syntax.specs.Budget.{limit}
use Rattle.ygg_syntax.specs.Weights.{Weights, weights_of}
use Rattle.ygg_syntax.specs.declared.tree.Def.{Def}

-- what is found first, or else a weight, where it is the weight of this name
abbrev pub or_first : Option ℕ → List ℕ → ℕ → List ℕ → Option ℕ
or_first (Some found) k weight name = Some found
or_first None k weight name = if bytes_eq k name then Some weight else None

-- the weight of the first definition of a name, or the limit where it is more
abbrev pub first_weight : Weights → List ℕ → Option ℕ
first_weight [] name = None
first_weight (k ∷ ks) name = if bytes_eq k.0 name then Some (min limit k.1) else first_weight ks name

-- the weight that a map has for a name
abbrev pub held : {S : Type 0} → IndexMap (Bor (List ℕ)) ℕ S → List ℕ → Option ℕ
held m name = get_by (λ k. bytes_eq name k.now) m

-- the map has the weight of each name's first definition
pub record IsTable {S : Type 0} (m : IndexMap (Bor (List ℕ)) ℕ S) (defs : List Def) : Type 0 where
  pub each : (name : List ℕ) → held m name ≡ first_weight (weights_of defs) name
