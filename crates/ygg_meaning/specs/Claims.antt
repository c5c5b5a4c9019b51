-- The obligations of a whole file.
use Rattle.std.specs.Prelude.{List, [], ◌∷◌, ◌++◌, map}
use Rattle.ygg_syntax.specs.declared.tree.DiskText.{DiskText}
use Rattle.ygg_syntax.specs.declared.tree.File.{File}
use Rattle.ygg_meaning.specs.Layer.{ClosedLayer}
use Rattle.ygg_meaning.specs.Obligations.{Obligation, Schedule, obligations_of}
use Rattle.ygg_meaning.specs.Violates.{Violates, Holds}
use Rattle.ygg_meaning.specs.Refines.{Below, machine_below}
use Rattle.ygg_meaning.specs.Stack.{Layers, below_of, layers_of}

-- an obligation of a layer, and what the layer is specified over
pub record Claim : Type 0 where
  pub layer : ClosedLayer
  pub below : Below
  pub obligation : Obligation

-- no schedule violates the obligation
abbrev pub ClaimHolds : Claim → Type 0
ClaimHolds c = Holds c.layer (machine_below c.below) c.obligation

-- the schedule violates the obligation
abbrev pub ClaimViolated : Claim → Schedule → Type 0
ClaimViolated c = Violates c.layer (machine_below c.below) c.obligation

-- the obligations of one layer, in order
abbrev pub claims_at : ClosedLayer → Below → List Claim
claims_at L g = map (λ o. record { layer = L; below = g; obligation = o }) (obligations_of L.layer)

-- the obligations of layers, those of the lowest first
abbrev pub claims_on : DiskText → Layers → List Claim
claims_on disk [] = []
claims_on disk (L ∷ lower) = claims_on disk lower ++ claims_at L (below_of disk lower)

-- the obligations of a file, in order
abbrev pub claims_of : File → List Claim
claims_of f = claims_on f.disk (layers_of f)
