-- The obligations of a layer, listed in code.
use Rattle.std.specs.Prelude.{◌≡◌, ℕ, List, [], ◌∷◌, map, slice_get, Some, All}
use Rattle.std.specs.List.{flat_map}
use Rattle.ygg_syntax.specs.declared.tree.Layer.{Layer}
use Rattle.ygg_syntax.specs.declared.tree.Operation.{Operation}
use Rattle.ygg_syntax.specs.declared.tree.Tick.{Tick}
use Rattle.ygg_meaning.specs.Obligations.{Obligation, Init, CallOf, CutOf, TickOf, CutTickOf, Idle, Again}
use Rattle.ygg_oblige_list.specs.InCode.{obligation_of}
use Rattle.ygg_oblige_list.specs.declared.listing.Asked.{Asked}

-- those listed, in order
abbrev pub asked_in : List Asked → List Obligation
asked_in = map (λ (a : Asked). obligation_of a.obligation)

-- those of operations
abbrev pub calls_of : List Operation → List Obligation
calls_of = flat_map (λ (o : Operation). CallOf o ∷ CutOf o ∷ [])

-- those of background steps
abbrev pub ticks_of : List Tick → List Obligation
ticks_of = flat_map (λ (t : Tick). TickOf t ∷ CutTickOf t ∷ [])

-- the number of an obligation is the place, from 0, of its operation or background step in the layer's list, else 0
abbrev pub IsNumberIn : Layer → Obligation → ℕ → Type 0
IsNumberIn l Init number = number ≡ 0
IsNumberIn l (CallOf o) number = slice_get l.operations number ≡ Some o
IsNumberIn l (CutOf o) number = slice_get l.operations number ≡ Some o
IsNumberIn l (TickOf t) number = slice_get l.ticks number ≡ Some t
IsNumberIn l (CutTickOf t) number = slice_get l.ticks number ≡ Some t
IsNumberIn l Idle number = number ≡ 0
IsNumberIn l Again number = number ≡ 0

-- each that is listed has its number
abbrev pub AreNumbered : Layer → List Asked → Type 0
AreNumbered l = All (λ (a : Asked). IsNumberIn l (obligation_of a.obligation) a.number)
