-- Declared names.
use Rattle.std.specs.Prelude.{List, All}
use Rattle.ygg_value.specs.Shapes.{IsShape}
use Rattle.ygg_sym_spec.specs.ygg_meaning.Shapes.{shape_in}
use Rattle.ygg_syntax.specs.declared.tree.Declared.{Declared}

-- the declared shapes keep the limits
abbrev pub AreKept : List Declared → Type 0
AreKept = All (λ (d : Declared). IsShape (shape_in d.shape))
