-- Lists of obligations.
use Rattle.std.specs.Prelude.{◌≡◌, ℕ, List, [], ◌∷◌, map, slice_get, Some}
use Rattle.ygg_syntax.specs.declared.tree.File.{File}
use Rattle.ygg_oblige_laws.specs.ygg_meaning.Claims.{Claim}
use Rattle.ygg_oblige_laws.specs.ygg_bank.declared.node.Id.{Id}
use Rattle.ygg_oblige_list.specs.Listing.{IsNumberIn}
use Rattle.ygg_oblige.specs.Kinds.{kind_in}
use Rattle.ygg_oblige.specs.declared.obligation.Obligation.{Obligation}

-- their terms, in order
abbrev pub terms_in : List Obligation → List Id
terms_in = map (λ (o : Obligation). o.term)

-- their names, in order
abbrev pub names_in : List Obligation → List (List ℕ)
names_in = map (λ (o : Obligation). o.name)

-- each has its place in the list
abbrev pub ArePlaced : List Obligation → Type 0
ArePlaced all = (place : ℕ) (o : Obligation) → slice_get all place ≡ Some o → o.place ≡ place

-- an obligation is this claim of the file: at the place that it has for its layer stands the claim's layer, it asks what the claim asks, and its number is the
-- place of the claim's operation or background step in the layer's list, else 0
pub record IsClaim (f : File) (c : Claim) (o : Obligation) : Type 0 where
  pub layer : slice_get f.layers o.layer ≡ Some c.layer.layer
  pub kind : o.kind ≡ kind_in c.obligation
  pub number : IsNumberIn c.layer.layer c.obligation o.number

-- the obligations are these claims of the file, in order
abbrev pub AreClaims : File → List Claim → List Obligation → Type 0
AreClaims f [] [] = Unit {0}
AreClaims f (c ∷ cs) (o ∷ os) = IsClaim f c o × AreClaims f cs os
AreClaims f _ _ = ⊥
