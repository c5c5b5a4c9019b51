-- What a layer is specified over, in code.
use Rattle.std.specs.Prelude.{◌≡◌, List}
use Rattle.ygg_syntax.specs.declared.tree.Def.{Def}
use Rattle.ygg_sym_spec.specs.declared.below.SymBelow.{SymBelow}
use Rattle.ygg_sym_spec.specs.declared.below.SymBelow.TheVariants.{Disk, Layer}

-- the layer below has these definitions
abbrev pub HasDefs : List Def → SymBelow → Type 0
HasDefs defs (Disk d) = Unit {0}
HasDefs defs (Layer m) = m.defs.now ≡ defs
