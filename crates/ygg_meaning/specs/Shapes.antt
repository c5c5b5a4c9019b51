-- Values of the declared shapes.
use Rattle.std.specs.Prelude.{ℕ, ◌^◌, ◌==◌, ◌&&◌, nat_lt, Bool, true, false, List, [], ◌∷◌, map, length}
use Rattle.std.specs.List.{list_all}
use Rattle.std.specs.Str.{bytes_eq}
use Rattle.ygg_value.specs.Shapes.{zero_of}
use Rattle.ygg_value.specs.declared.row.Value.{Value}
use Rattle.ygg_value.specs.declared.row.Value.TheVariants.{Word, Row, Table}
use Rattle.ygg_value.specs.declared.shape.Shape.{Shape}
use Rattle.ygg_value.specs.declared.shape.Shape.TheVariants as shape
use Rattle.ygg_syntax.specs.declared.tree.Declared.{Declared}
use Rattle.ygg_syntax.specs.declared.tree.TypeText.{TypeText}
use Rattle.ygg_syntax.specs.declared.tree.TypeText.TheVariants as text
use Rattle.ygg_meaning.specs.Environments.{Env}

-- the shape that a type stands for
abbrev pub shape_in : TypeText → Shape
shape_in (text.Word w) = shape.Word w.value
shape_in (text.Row m w) = shape.Row m.value w.value
shape_in (text.Table n m w) = shape.Table n.value m.value w.value

-- whether there are as many numbers, each of them below 2 ^ width
abbrev pub words_fit : ℕ → ℕ → List ℕ → Bool
words_fit width count words = length words == count && list_all (λ n. nat_lt n (2 ^ width)) words

-- whether a value has the shape, each of its numbers within the width
abbrev pub fits : Shape → Value → Bool
fits (shape.Word w) (Word v) = v.width == w && nat_lt v.bits (2 ^ w)
fits (shape.Row m w) (Row r) = r.width == w && words_fit w m r.words
fits (shape.Table n m w) (Table t) = t.width == w && t.words == m && length t.rows == n && list_all (words_fit w m) t.rows
fits _ _ = false

-- whether there is a value of its shape for each declared name, in order
abbrev pub values_fit : List Declared → List Value → Bool
values_fit [] [] = true
values_fit (d ∷ ds) (v ∷ vs) = fits (shape_in d.shape) v && values_fit ds vs
values_fit _ _ = false

-- whether the names are the declared ones, in order, each with a value of its shape
abbrev pub env_fits : List Declared → Env → Bool
env_fits [] [] = true
env_fits (d ∷ ds) (b ∷ env) = bytes_eq d.name.text b.0 && fits (shape_in d.shape) b.1 && env_fits ds env
env_fits _ _ = false

-- the declared names with zeros
abbrev pub zeros_of : List Declared → Env
zeros_of = map (λ d. (d.name.text, zero_of (shape_in d.shape)))
