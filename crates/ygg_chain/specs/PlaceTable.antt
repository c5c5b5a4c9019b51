-- What a table of places says of a variable.
use Rattle.std.specs.Prelude.{◌≡◌, ℕ, zero, suc, ◌<◌, ◌↔◌, List, Option, Some, length, get_or, nat_eq}
use Rattle.indexmap.specs.IndexMap.{get}
use Rattle.ygg_chain.specs.declared.place_table.PlaceTable.{PlaceTable}

-- what stands near is the place and 1 more, and 0 where the place is the far one, if there is any
abbrev pub near_or : ℕ → Option ℕ → Option ℕ
near_or zero far = far
near_or (suc place) far = Some place

-- the place that the table has for a variable
abbrev pub place_of : PlaceTable → ℕ → Option ℕ
place_of table variable = near_or (get_or table.near.items variable 0) (get nat_eq table.far variable)

-- the table has the place of each variable, and of nothing else
abbrev pub IsIndexOf : PlaceTable → List ℕ → Type 0
IsIndexOf table variables =
    (variable place : ℕ) → (place_of table variable ≡ Some place) ↔ ((place < length variables) × (get_or variables place 0 ≡ variable))
