-- The obligations of a layer by what follows the layer's name in theirs.
use Rattle.std.specs.Prelude.{ℕ, Bool, List, [], ◌∷◌, ◌++◌, codes}
use Rattle.std.specs.List.{flat_map}
use Rattle.std.specs.Str.{bytes_eq}
use Rattle.ygg_syntax.specs.declared.tree.Operation.{Operation}
use Rattle.ygg_syntax.specs.declared.tree.Tick.{Tick}
use Rattle.ygg_meaning.specs.Obligations.{Obligation, Init, CallOf, CutOf, TickOf, CutTickOf, Idle, Again}

-- what follows the layer's name
abbrev pub suffix_of : Obligation → List ℕ
suffix_of Init = codes ".init"
suffix_of (CallOf operation) = codes ".call." ++ operation.name.text
suffix_of (CutOf operation) = codes ".cut." ++ operation.name.text
suffix_of (TickOf tick) = codes ".tick." ++ tick.name.text
suffix_of (CutTickOf tick) = codes ".cuttick." ++ tick.name.text
suffix_of Idle = codes ".idle"
suffix_of Again = codes ".again"

-- whether it follows the layer's name
abbrev pub is_suffix : List ℕ → Obligation → Bool
is_suffix name o = bytes_eq (suffix_of o) name

-- the obligations of operations
abbrev pub calls_of : List Operation → List Obligation
calls_of = flat_map (λ (o : Operation). CallOf o ∷ CutOf o ∷ [])

-- the obligations of background steps
abbrev pub ticks_of : List Tick → List Obligation
ticks_of = flat_map (λ (t : Tick). TickOf t ∷ CutTickOf t ∷ [])

-- all obligations of a layer with these operations and background steps
abbrev pub all_of : List Operation → List Tick → List Obligation
all_of operations ticks = Init ∷ calls_of operations ++ ticks_of ticks ++ Idle ∷ Again ∷ []
