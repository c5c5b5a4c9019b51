-- A layer of a file in code, and what it is specified over.
use Rattle.std.specs.Prelude.{◌≡◌, IsTrue, []}
use Rattle.ygg_sym_spec.specs.ygg_type_rules.TypeErrors.{none}
use Rattle.ygg_sym_spec.specs.ygg_type_rules.Definitions.{definitions_errors}
use Rattle.ygg_sym_spec.specs.ygg_meaning.Refines.{Below, OnDisk, OnSpec}
use Rattle.ygg_sym_runs.specs.Below.{lows_on}
use Rattle.ygg_sym_runs.specs.Typed.{BelowTyped}
use Rattle.ygg_sym_spec.specs.Layers.{closed}
use Rattle.ygg_sym_spec.specs.declared.layer.SymLayer.{SymLayer}
use Rattle.ygg_sym_spec.specs.declared.below.SymBelow.{SymBelow}
use Rattle.ygg_sym_spec.specs.declared.below.SymBelow.TheVariants.{Disk, Layer}
use Rattle.ygg_sym_spec.specs.Kept.{AreKept}

-- the disk, or the layer below
abbrev pub below_in : SymBelow → Below
below_in (Disk d) = OnDisk d
below_in (Layer l) = OnSpec (closed l)

-- the layer below has the same definitions
abbrev pub SameDefs : SymLayer → SymBelow → Type 0
SameDefs l (Disk d) = Unit {0}
SameDefs l (Layer m) = m.defs.now ≡ l.defs.now

-- what a layer is specified over has no type error, and the layer names its variables
pub record BelowFits (l : SymLayer) (g : SymBelow) : Type 0 where
  pub sound : IsTrue (none (definitions_errors l.defs.now [] []))
  pub same : SameDefs l g
  pub typed : BelowTyped l.defs.now (below_in g)
  pub low_is : l.low.now ≡ lows_on (below_in g)
  pub kept : AreKept l.low.now
