-- The obligations of a layer as they are listed in code.
use Rattle.std.proofs.Common.{◌≡◌, ◌<◌, ℕ, List, length, get_or, take, Some, refl, sym, ap, ◌∙◌, subst}
use Rattle.std.specs.Prelude.{slice_get}
use Rattle.std.proofs.lemmas.List.{length-map, take-map}
use Rattle.std.proofs.lemmas.Option.{slice_get-map, slice_get_read}
use Rattle.std.specs.Option.{option_map}
use Rattle.ygg_syntax.specs.declared.tree.Layer.{Layer}
use Rattle.ygg_oblige_list.specs.ygg_meaning.Obligations.{Obligation, Init, CallOf, CutOf, TickOf, CutTickOf, Idle, Again}
use Rattle.ygg_oblige_list.specs.InCode.{obligation_of}
use Rattle.ygg_oblige_list.specs.Listing.{AreNumbered, IsNumberIn, asked_in}
use Rattle.ygg_oblige_list.specs.declared.listing.Asked.{Asked}
use Rattle.ygg_oblige_reading.specs.Listing.{StandsIn}

-- the obligation of one that is listed
abbrev asks : Asked → Obligation
asks a = obligation_of a.obligation

-- its operation or background step stands at its number
stands_in : (l : Layer) (o : Obligation) (number : ℕ) → IsNumberIn l o number → StandsIn l.operations l.ticks o number
stands_in l Init number h = tt
stands_in l (CallOf o) number h = h
stands_in l (CutOf o) number h = h
stands_in l (TickOf t) number h = h
stands_in l (CutTickOf t) number h = h
stands_in l Idle number h = tt
stands_in l Again number h = tt

-- those before a place
pub before : (xs : List Asked) (os : List Obligation) (k : ℕ) → asked_in xs ≡ os → asked_in (take k xs) ≡ take k os
before xs os k e = sym (take-map asks k xs) ∙ ap (take k) e

-- there are as many as are meant
pub as_many : (xs : List Asked) (os : List Obligation) → asked_in xs ≡ os → length xs ≡ length os
as_many xs os e = sym (length-map xs asks) ∙ ap (λ (z : List Obligation). length z) e

module _ (l : Layer) (xs : List Asked) (k : ℕ) (a : Asked) (within : k < length xs) (is : a ≡ get_or xs k a) where
  -- the one at a place
  pub here : (os : List Obligation) → asked_in xs ≡ os → slice_get os k ≡ Some (obligation_of a.obligation)
  here os e =
      ap (λ (z : List Obligation). slice_get z k) (sym e) ∙ slice_get-map asks xs k
      ∙ ap (option_map asks) (slice_get_read xs (length xs) k a refl within is)

  -- stands where it says
  pub stands : AreNumbered l xs → StandsIn l.operations l.ticks (obligation_of a.obligation) a.number
  stands all = subst (λ (z : Asked). StandsIn l.operations l.ticks (obligation_of z.obligation) z.number) (sym is)
      (stands_in l (obligation_of (get_or xs k a).obligation) (get_or xs k a).number (all k a within))
