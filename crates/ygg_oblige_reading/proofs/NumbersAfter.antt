-- The numbers after the inputs of obligations, one more at a time, and what typing says of their arguments.
use Rattle.std.proofs.Common.{◌≡◌, ℕ, List, [], ◌∷◌, get_or, Some, refl, sym, ap, ◌∙◌, subst}
use Rattle.std.specs.Prelude.{All, slice_get}
use Rattle.std.proofs.lemmas.Option.{get_or_from_slice_get, slice_get_within}
use Rattle.ygg_rules.specs.declared.rule.RuleKind.{RuleKind}
use Rattle.ygg_oblige_list.specs.ygg_meaning.Obligations.{Obligation, obligations_of}
use Rattle.ygg_oblige.specs.ygg_sym_spec.Layers.{closed}
use Rattle.ygg_oblige.specs.ygg_sym_spec.declared.layer.SymLayer.{SymLayer}
use Rattle.ygg_oblige.specs.Sites.{below_in}
use Rattle.ygg_oblige.specs.ygg_sym_spec.declared.below.SymBelow.{SymBelow}
use Rattle.ygg_oblige.specs.ygg_oblige_laws.LayerTerms.{LayerTyped}
use Rattle.ygg_oblige.proofs.Begun.{layer_known}
use Rattle.ygg_oblige.proofs.KnownSo.{known_shapes}
use Rattle.ygg_oblige_reading.specs.Listing.{ArgumentsKept}
use Rattle.ygg_oblige.specs.ygg_oblige_laws.Numbers.{Numbers, numbers_of}
use Rattle.ygg_oblige.specs.Adding.{after_at}

module _ (kinds : List RuleKind) (l : SymLayer) (g : SymBelow) where
  -- the shapes of the arguments that a typed layer's obligations speak of keep the limits
  pub arguments_kept : LayerTyped l.defs.now (below_in g) (closed l) → All ArgumentsKept (obligations_of l.layer.now)
  arguments_kept typed = λ k d h.
      known_shapes kinds l g (get_or (obligations_of l.layer.now) k d) (layer_known kinds l g typed (obligations_of l.layer.now) refl k d h)

  -- what is left after one more obligation is numbered on from the number after its inputs
  pub one_more : (os left all : List Obligation) (o : Obligation) (numbers : Numbers) (next first : ℕ) → os ≡ o ∷ left →
      numbers ≡ numbers_of (below_in g) (closed l) o next → after_at kinds l g os next ≡ after_at kinds l g all first →
      after_at kinds l g left numbers.next ≡ after_at kinds l g all first
  one_more os left all o numbers next first e n same =
      ap (λ (m : Numbers). after_at kinds l g left m.next) n ∙ sym (ap (λ (xs : List Obligation). after_at kinds l g xs next) e) ∙ same

  -- where none is left, the number is that after all
  pub numbered_all : (os all : List Obligation) (next first : ℕ) → os ≡ [] → after_at kinds l g os next ≡ after_at kinds l g all first →
      next ≡ after_at kinds l g all first
  numbered_all os all next first e same = sym (ap (λ (xs : List Obligation). after_at kinds l g xs next) e) ∙ same

-- what holds of all items holds of the one at a place
pub item_of : {X : Type 0} (P : X → Type 0) (xs : List X) (k : ℕ) (x : X) → All P xs → slice_get xs k ≡ Some x → P x
item_of P xs k x all h = subst P (get_or_from_slice_get xs k x x h) (all k x (slice_get_within xs k x h))
