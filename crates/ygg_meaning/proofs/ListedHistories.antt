-- The obligations of all layers hold where each layer refines its specification.
use Rattle.std.proofs.Common.{◌≡◌, refl, sym, subst, List, [], ◌∷◌, map}
use Rattle.std.specs.List.{All}
use Rattle.std.proofs.lemmas.List.Elements.{All-nil, All-cons, All-head, All-tail, All-append, All-map}
use Rattle.ygg_syntax.specs.declared.tree.DiskText.{DiskText}
use Rattle.ygg_meaning.specs.Layer.{ClosedLayer}
use Rattle.ygg_meaning.specs.Obligations.{Obligation, obligations_of}
use Rattle.ygg_meaning.specs.Violates.{Holds}
use Rattle.ygg_meaning.specs.Refines.{Below, machine_below, Refines}
use Rattle.ygg_meaning.specs.DiskMachine.{DiskMachine}
use Rattle.ygg_meaning.proofs.Listed.{front, back}
use Rattle.ygg_meaning.specs.Stack.{Layers, Over, AllRefine, below_of}
use Rattle.ygg_meaning.specs.Claims.{Claim, ClaimHolds, claims_at, claims_on}

module _ (L : ClosedLayer) (g : Below) where
  abbrev claim : Obligation → Claim
  claim o = record { layer = L; below = g; obligation = o }

  unmapped : (os : List Obligation) → All ClaimHolds (map claim os) → All (Holds L (machine_below g)) os
  unmapped [] h = All-nil (Holds L (machine_below g))
  unmapped (o ∷ os) h =
      All-cons (Holds L (machine_below g)) o os (All-head ClaimHolds (claim o) (map claim os) h) (unmapped os (All-tail ClaimHolds (claim o) (map claim os) h))

-- the machine of what a layer is specified over
below_is : (disk : DiskText) (lower : Layers) → machine_below (below_of disk lower) ≡ Over (DiskMachine disk) lower
below_is disk [] = refl
below_is disk (L ∷ lower) = refl

pub all_refine : (disk : DiskText) (layers : Layers) → All ClaimHolds (claims_on disk layers) → AllRefine (DiskMachine disk) layers
all_refine disk [] h = tt
all_refine disk (L ∷ lower) h =
    let g = below_of disk lower in (
      subst (Refines L) (below_is disk lower) (unmapped L g (obligations_of L.layer) (back ClaimHolds (claims_on disk lower) (claims_at L g) h)),
      all_refine disk lower (front ClaimHolds (claims_on disk lower) (claims_at L g) h),
    )

pub all_hold : (disk : DiskText) (layers : Layers) → AllRefine (DiskMachine disk) layers → All ClaimHolds (claims_on disk layers)
all_hold disk [] r = All-nil ClaimHolds
all_hold disk (L ∷ lower) (r, rs) =
    let g = below_of disk lower in
    All-append ClaimHolds (claims_on disk lower) (claims_at L g) (all_hold disk lower rs)
    (All-map ClaimHolds (claim L g) (obligations_of L.layer) (subst (Refines L) (sym (below_is disk lower)) r))
