-- What reading does.
use Rattle.std.specs.Prelude.{◌≡◌, List, [], ◌∷◌, ◌++◌, length, Option, Some, Result, Ok, IfOk, IfSome, IfNone, OnSome}
use Rattle.ygg_base.specs.declared.token.Token.{Token}
use Rattle.ygg_list.specs.declared.memory.NoMemory.{NoMemory}
use Rattle.ygg_syntax.specs.Reading.{Reading, in_turn}
use Rattle.ygg_syntax.specs.Pending.{Pending, expression, indices, outcome, stops}

-- the readings take the tokens between, whatever is read then
abbrev pub Reads : List Reading → List Token → List Token → Type 0
Reads rs from rest = (qs : List Reading) → in_turn (rs ++ qs) from ≡ in_turn qs rest

-- the pending symbols take the tokens between, whatever comes then
abbrev pub Goes : List Pending → List Token → List Token → Type 0
Goes ps from rest = (qs : List Pending) → outcome (ps ++ qs) from ≡ outcome qs rest

-- an expression takes the tokens between, and indices may come next
abbrev pub GoesAsAtom : List Token → List Token → Type 0
GoesAsAtom from rest = (qs : List Pending) → outcome (expression ∷ qs) from ≡ outcome (indices ∷ qs) rest

-- with the pending symbols reading stops where these tokens are left
abbrev pub Stops : List Pending → List Token → List Token → Type 0
Stops ps from rest = (qs : List Pending) → outcome (ps ++ qs) from ≡ stops (length rest)

-- what holds where something was read
abbrev pub IfRead : {A : Type 0} → Result (Option A) NoMemory → (A → Type 0) → Type 0
IfRead result P = IfOk result (λ read. IfSome read P)

-- what holds where something was read, whatever it is
abbrev pub OnRead : {A : Type 0} → Result (Option A) NoMemory → Type 0 → Type 0
OnRead result P = IfOk result (λ read. OnSome read P)

-- what holds where nothing was read
abbrev pub IfRefused : {A : Type 0} → Result (Option A) NoMemory → Type 0 → Type 0
IfRefused result P = IfOk result (λ read. IfNone read P)

-- something was read, and all is the list with it at its end
abbrev pub Added : {A : Type 0} → List A → Result (Option A) NoMemory → List A → Type 0
Added {A} list next all = (a : A) × ((next ≡ Ok (Some a)) × (all ≡ list ++ a ∷ []))
