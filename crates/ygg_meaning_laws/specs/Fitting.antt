-- Values where shapes are wanted, and where they are known.
use Rattle.std.specs.Prelude.{◌≡◌, ℕ, Bool, true, false, ◌&&◌, IsTrue, List, [], ◌∷◌, Option, Some, None}
use Rattle.ygg_value.specs.declared.shape.Shape.{Shape}
use Rattle.ygg_value.specs.declared.row.Value.{Value}
use Rattle.ygg_value.specs.Shapes.{IsShape, IsValue, shape_of}
use Rattle.ygg_type_rules.specs.Names.{Named, look_up}
use Rattle.ygg_type_rules.specs.declared.scope.Signature.{Signature}
use Rattle.ygg_meaning.specs.Meaning.{Functions}
use Rattle.ygg_meaning.specs.Shapes.{fits}

-- there is a shape, and its numbers keep their limits
pub record IsShaped (known : Option Shape) : Type 0 where
  pub shape : Shape
  pub is : known ≡ Some shape
  pub limits : IsShape shape

-- there is a shape, and it is that of the value, which keeps the limits
pub record HasShape (known : Option Shape) (v : Value) : Type 0 where
  pub is : known ≡ Some (shape_of v)
  pub limits : IsValue v

-- the name has a value, which has this shape
pub record IsHeld (name : List ℕ) (known : Option Shape) (values : Named Value) : Type 0 where
  pub value : Value
  pub found : look_up name values ≡ Some value
  pub has : HasShape known value

-- whether the value has the shape that is wanted, if one is
abbrev pub fits_wanted : Option Shape → Value → Bool
fits_wanted None v = true
fits_wanted (Some s) v = fits s v

-- whether there are as many values as wanted shapes, and each has its own
abbrev pub all_fit : List (Option Shape) → List Value → Bool
all_fit [] [] = true
all_fit (w ∷ ws) (v ∷ vs) = fits_wanted w v && all_fit ws vs
all_fit _ _ = false

-- what the name gives for arguments of the wanted shapes has the answer's shape
abbrev pub Meets : Functions → List ℕ → Signature → Type 0
Meets functions name d = (args : List Value) → IsTrue (all_fit d.arguments args) → HasShape d.answer (functions name args)
