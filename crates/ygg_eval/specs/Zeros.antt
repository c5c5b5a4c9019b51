-- Zeros for declared names.
use Rattle.std.specs.Prelude.{List, map, All}
use Rattle.ygg_value.specs.Shapes.{IsShape, zero_of}
use Rattle.ygg_value.specs.declared.row.Value.{Value}
use Rattle.ygg_syntax.specs.declared.tree.Declared.{Declared}
use Rattle.ygg_meaning_laws.specs.ygg_meaning.Shapes.{shape_in}

-- the shapes keep the limits
abbrev pub AreShapes : List Declared → Type 0
AreShapes = All (λ (d : Declared). IsShape (shape_in d.shape))

-- a zero of its shape for each
abbrev pub zero_values : List Declared → List Value
zero_values = map (λ (d : Declared). zero_of (shape_in d.shape))
