-- Layers, operations and background steps of a file by their names and places.
use Rattle.std.specs.Prelude.{ℕ, ◌+◌, ◌-◌, if◌then◌else◌, List, [], ◌∷◌, length, slice_get, Option, Some, None, option_and_then}
use Rattle.std.specs.Str.{bytes_eq}
use Rattle.std.specs.Option.{option_map}
use Rattle.ygg_syntax.specs.declared.tree.Declared.{Declared}
use Rattle.ygg_syntax.specs.declared.tree.Operation.{Operation}
use Rattle.ygg_syntax.specs.declared.tree.Layer.{Layer}
use Rattle.ygg_syntax.specs.declared.tree.File.{File}
use Rattle.ygg_sched.specs.ygg_type.Typed.{operations_at}
use Rattle.ygg_value.specs.declared.row.Value.{Value}
use Rattle.ygg_sched.specs.Values.{value_in}

-- the operations of the topmost layer
abbrev pub top_operations : File → List Operation
top_operations f = operations_at f.layers (length f.layers - 1)

-- the arguments of the operation at a place
abbrev pub arguments_at : List Operation → ℕ → List Declared
arguments_at os place = elim (slice_get os place) [ None ↦ [] | Some o ↦ o.arguments ]

-- the place of the first layer of a name, where the first of these has this place
abbrev pub layer_place : ℕ → List Layer → List ℕ → Option ℕ
layer_place place [] name = None
layer_place place (l ∷ ls) name = if bytes_eq l.name.text name then Some place else layer_place (place + 1) ls name

-- a value for each of these variables, in order, where there are as many words and each is one of its variable's type
abbrev pub values_in : List Declared → List (List ℕ) → Option (List Value)
values_in [] [] = Some []
values_in [] (word ∷ words) = None
values_in (d ∷ ds) [] = None
values_in (d ∷ ds) (word ∷ words) = option_and_then (λ v. option_map (λ vs. v ∷ vs) (values_in ds words)) (value_in d.shape word)
