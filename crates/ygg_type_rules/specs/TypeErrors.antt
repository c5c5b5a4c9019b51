-- Type errors, lists of them, and the least of a list.
use Rattle.std.specs.Prelude.{◌≡◌, ℕ, Bool, true, false, not, ◌==◌, ◌&&◌, nat_lt, if◌then◌else◌, List, [], ◌∷◌, ◌++◌, Option, Some, None}
use Rattle.std.specs.List.{Contains}
use Rattle.ygg_base.specs.declared.reason.Reason.{Reason}
use Rattle.ygg_base.specs.Reason.{number_of}
use Rattle.ygg_syntax.specs.declared.tree.Place.{Place}
use Rattle.ygg_type_rules.specs.declared.type_error.TypeError.{TypeError}

-- the type error of that reason at a place
abbrev pub type_error : Place → Reason → TypeError
type_error place why = record { place = place; reason = why }

-- type errors of parts put together
pub data TypeErrors : Type 0 where
  nothing : TypeErrors
  one : TypeError → TypeErrors
  both : TypeErrors → TypeErrors → TypeErrors

-- the list of type errors
abbrev pub listed : TypeErrors → List TypeError
listed nothing = []
listed (one f) = f ∷ []
listed (both fs gs) = listed fs ++ listed gs

-- whether the list of type errors is empty
abbrev pub none : TypeErrors → Bool
none nothing = true
none (one f) = false
none (both fs gs) = none fs && none gs

-- a type error of that reason at a place, unless the test passes
abbrev pub unless : Bool → Reason → Place → TypeErrors
unless test why place = if test then nothing else one (type_error place why)

-- a type error of that reason at a place, if there is a reason
abbrev pub type_error_at : Place → Option Reason → TypeErrors
type_error_at place None = nothing
type_error_at place (Some why) = one (type_error place why)

-- at an earlier place, or at one place with a smaller number of the refusal
abbrev pub comes_before : TypeError → TypeError → Bool
comes_before a b =
    if not (a.place.line == b.place.line) then nat_lt a.place.line b.place.line
    else if not (a.place.column == b.place.column) then nat_lt a.place.column b.place.column
    else nat_lt (number_of a.reason) (number_of b.reason)

-- the type error is in the list, and none of the list comes before it
pub record IsLeast (f : TypeError) (fs : List TypeError) : Type 0 where
  pub in_list : Contains fs f
  pub least : (g : TypeError) → Contains fs g → comes_before g f ≡ false

-- the earlier one of a type error found before, if any, and another
abbrev pub earlier : Option TypeError → TypeError → Option TypeError
earlier None f = Some f
earlier (Some g) f = if comes_before f g then Some f else Some g

-- the least one of a type error found before, if any, and these type errors
abbrev pub first_after : Option TypeError → TypeErrors → Option TypeError
first_after found nothing = found
first_after found (one f) = earlier found f
first_after found (both fs gs) = first_after (first_after found fs) gs
