-- Values of which a part is written anew.
use Rattle.std.specs.Prelude.{ℕ, zero, suc, IsTrue}
use Rattle.ygg_value.specs.declared.row.Value.{Value}
use Rattle.ygg_value.specs.declared.shape.Shape.{Shape}
use Rattle.ygg_meaning_laws.specs.Shapes.{part_shape}
use Rattle.ygg_meaning_laws.specs.MeaningShapes.{fits}

-- the shape that so many indices lead to
abbrev pub shape_led_to : Shape → ℕ → Shape
shape_led_to s zero = s
shape_led_to s (suc n) = shape_led_to (part_shape s) n

-- the part has the shape that so many indices lead to in the whole
pub record CanWrite (whole : Value) (indices : ℕ) (part : Value) : Type 0 where
  pub shape : Shape
  pub whole_fits : IsTrue (fits shape whole)
  pub part_fits : IsTrue (fits (shape_led_to shape indices) part)
