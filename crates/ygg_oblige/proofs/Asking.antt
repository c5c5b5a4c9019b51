-- Obligations added in order, and which ones of a layer and of a file they are.
use Rattle.std.proofs.Common.{◌≡◌, ℕ, List, [], ◌∷◌, ◌++◌, map, slice_get, Some, refl, sym, ap, ◌∙◌, subst, append_assoc}
use Rattle.std.proofs.lemmas.List.{append-nil}
use Rattle.ygg_syntax.specs.declared.tree.File.{File}
use Rattle.ygg_syntax.specs.declared.tree.Layer.{Layer}
use Rattle.ygg_oblige_laws.specs.ygg_meaning.Layer.{ClosedLayer}
use Rattle.ygg_oblige_laws.specs.ygg_meaning.Obligations.{Obligation, obligations_of}
use Rattle.ygg_oblige_laws.specs.ygg_meaning.Refines.{Below}
use Rattle.ygg_oblige_laws.specs.ygg_meaning.Claims.{Claim, claims_at}
use Rattle.ygg_oblige_list.specs.Listing.{IsNumberIn}
use Rattle.ygg_oblige.specs.Adding.{AddsAsked, AreAsked}
use Rattle.ygg_oblige.specs.Kinds.{kind_in}
use Rattle.ygg_oblige.specs.Obligations.{AreClaims}
use Rattle.ygg_oblige.specs.declared.obligation.Obligation as code

-- one is added
pub asked_one : (place : ℕ) (l : Layer) (o : Obligation) (before after : List code.Obligation) (item : code.Obligation) → after ≡ before ++ item ∷ [] →
    item.layer ≡ place → item.kind ≡ kind_in o → IsNumberIn l o item.number → AddsAsked place l (o ∷ []) before after
asked_one place l o before after item e layer kind number = record {
  items = item ∷ [];
  are = (record { layer = layer; kind = kind; number = number }, tt);
  added = e;
}

asked_append : (place : ℕ) (l : Layer) (os ps : List Obligation) (items more : List code.Obligation) → AreAsked place l os items → AreAsked place l ps more →
    AreAsked place l (os ++ ps) (items ++ more)
asked_append place l [] ps [] more a b = b
asked_append place l (o ∷ os) ps (item ∷ items) more a b = (a.0, asked_append place l os ps items more a.1 b)
asked_append place l [] ps (item ∷ items) more a b = absurd a
asked_append place l (o ∷ os) ps [] more a b = absurd a

-- none is added yet
pub asked_none : (place : ℕ) (l : Layer) (all : List code.Obligation) → AddsAsked place l [] all all
asked_none place l all = record { items = []; are = tt; added = sym (append-nil all) }

-- some are added, and then more
asked_then : (place : ℕ) (l : Layer) (os ps : List Obligation) (old mid new : List code.Obligation) → AddsAsked place l os old mid →
    AddsAsked place l ps mid new → AddsAsked place l (os ++ ps) old new
asked_then place l os ps old mid new a b = record {
  items = a.items ++ b.items;
  are = asked_append place l os ps a.items b.items a.are b.are;
  added = b.added ∙ ap (λ (z : List code.Obligation). z ++ b.items) a.added ∙ append_assoc old a.items b.items;
}

-- of these obligations of the layer at a place that were to be added to a list, the others are left
pub record AsksOn (place : ℕ) (l : Layer) (os : List Obligation) (all : List code.Obligation) (left : List Obligation) (so_far : List code.Obligation)
    : Type 0 where
  pub before : List Obligation
  pub parts : before ++ left ≡ os
  pub adds : AddsAsked place l before all so_far

module _ (place : ℕ) (l : Layer) (os : List Obligation) (all : List code.Obligation) where
  pub asks_begun : AsksOn place l os all os all
  asks_begun = record { before = []; parts = refl; adds = asked_none place l all }

  pub asks_on : (o : Obligation) (left : List Obligation) (so_far then_all : List code.Obligation) → AsksOn place l os all (o ∷ left) so_far →
      AddsAsked place l (o ∷ []) so_far then_all → AsksOn place l os all left then_all
  asks_on o left so_far then_all a one = record {
    before = a.before ++ o ∷ [];
    parts = append_assoc a.before (o ∷ []) left ∙ a.parts;
    adds = asked_then place l a.before (o ∷ []) all so_far then_all a.adds one;
  }

  pub asks_done : (left : List Obligation) (so_far : List code.Obligation) → left ≡ [] → AsksOn place l os all left so_far → AddsAsked place l os all so_far
  asks_done left so_far none a =
      let is : a.before ≡ os = sym (append-nil a.before) ∙ ap (λ (z : List Obligation). a.before ++ z) (sym none) ∙ a.parts in
      subst (λ (z : List Obligation). AddsAsked place l z all so_far) is a.adds

module _ (f : File) where
  claims_append : (cs ds : List Claim) (items more : List code.Obligation) → AreClaims f cs items → AreClaims f ds more → AreClaims f (cs ++ ds) (items ++ more)
  claims_append [] ds [] more a b = b
  claims_append (c ∷ cs) ds (item ∷ items) more a b = (a.0, claims_append cs ds items more a.1 b)
  claims_append [] ds (item ∷ items) more a b = absurd a
  claims_append (c ∷ cs) ds [] more a b = absurd a

  module _ (place : ℕ) (L : ClosedLayer) (G : Below) (here : slice_get f.layers place ≡ Some L.layer) where
    -- those of the layer at a place are its claims
    asked_claims : (os : List Obligation) (items : List code.Obligation) → AreAsked place L.layer os items →
        AreClaims f (map (λ (o : Obligation). record { layer = L; below = G; obligation = o }) os) items
    asked_claims [] [] a = tt
    asked_claims (o ∷ os) (item ∷ items) a =
        (record { layer = ap (slice_get f.layers) a.0.layer ∙ here; kind = a.0.kind; number = a.0.number }, asked_claims os items a.1)
    asked_claims [] (item ∷ items) a = absurd a
    asked_claims (o ∷ os) [] a = absurd a

    -- those of the layers below, and then its own
    pub claims_on_more : (cs : List Claim) (old new : List code.Obligation) → AreClaims f cs old → AddsAsked place L.layer (obligations_of L.layer) old new →
        AreClaims f (cs ++ claims_at L G) new
    claims_on_more cs old new before a =
        subst (λ (z : List code.Obligation). AreClaims f (cs ++ claims_at L G) z) (sym a.added)
        (claims_append cs (claims_at L G) old a.items before (asked_claims (obligations_of L.layer) a.items a.are))
