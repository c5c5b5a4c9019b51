-- Obligations that are listed, with their numbers.
use Rattle.std.proofs.Common.{◌≡◌, ◌<◌, ℕ, ◌+◌, List, [], ◌∷◌, ◌++◌, length, drop, get_or, Some, refl, subst, sym, ap, ◌∙◌, append_assoc}
use Rattle.std.specs.Prelude.{slice_get}
use Rattle.std.proofs.lemmas.List.Elements.{All-push}
use Rattle.std.proofs.lemmas.List.{drop_more}
use Rattle.std.proofs.lemmas.Option.{slice_get_read}
use Rattle.ygg_syntax.specs.declared.tree.Layer.{Layer}
use Rattle.ygg_meaning.specs.Obligations.{Obligation}
use Rattle.ygg_oblige_list.specs.InCode.{obligation_of}
use Rattle.ygg_oblige_list.specs.Listing.{AreNumbered, IsNumberIn}
use Rattle.ygg_oblige_list.specs.declared.listing.Asked.{Asked}

module _ (l : Layer) where
  -- it has its number
  abbrev pub HasNumber : Asked → Type 0
  HasNumber a = IsNumberIn l (obligation_of a.obligation) a.number

  -- one more is listed
  pub one_more : (old new : List Asked) (a : Asked) → new ≡ old ++ a ∷ [] → AreNumbered l old → HasNumber a → AreNumbered l new
  one_more old new a e all one = subst (λ (z : List Asked). AreNumbered l z) (sym e) (All-push HasNumber old a all one)

-- the element at a place
pub element_here : {X : Type 0} (xs items : List X) (i : ℕ) (x : X) → items ≡ xs → i < length items → x ≡ get_or items i x → slice_get xs i ≡ Some x
element_here xs items i x e h is = subst (λ z. slice_get z i ≡ Some x) e (slice_get_read items (length items) i x refl h is)

-- the elements from a place on
pub rest_here : {X : Type 0} (xs items : List X) (i : ℕ) (x : X) → items ≡ xs → i < length items → x ≡ get_or items i x → drop i xs ≡ x ∷ drop (i + 1) xs
rest_here xs items i x e h is = subst (λ z. drop i z ≡ x ∷ drop (i + 1) z) e (drop_more items i x h ∙ ap (λ z. z ∷ drop (i + 1) items) (sym is))

-- two more are listed before those that are left
pub two_asked : (so_far one two rest all : List Obligation) (a b : Obligation) → one ≡ so_far ++ a ∷ [] → two ≡ one ++ b ∷ [] →
    so_far ++ a ∷ b ∷ rest ≡ all → two ++ rest ≡ all
two_asked so_far one two rest all a b e f is =
    ap (λ (z : List Obligation). z ++ rest) (f ∙ ap (λ (z : List Obligation). z ++ b ∷ []) e)
    ∙ append_assoc (so_far ++ a ∷ []) (b ∷ []) rest ∙ append_assoc so_far (a ∷ []) (b ∷ rest) ∙ is
