-- The obligations of a layer, made from the states that they begin with.
use Rattle.std.proofs.Common.{◌≡◌, ℕ, ◌+◌, List, sym, ap, ◌∙◌, subst}
use Rattle.std.specs.Prelude.{All}
use Rattle.ygg_oblige_laws.specs.ygg_rules.declared.rule.RuleKind.{RuleKind}
use Rattle.ygg_oblige_laws.specs.ygg_bank.Makes.{Out}
use Rattle.ygg_oblige_laws.specs.ygg_bank.declared.node.Node.{Node}
use Rattle.ygg_oblige_laws.specs.ygg_meaning.Obligations.{Obligation, obligations_of}
use Rattle.ygg_oblige_parts.specs.ygg_sym_spec.Layers.{closed, terms_in}
use Rattle.ygg_oblige_parts.specs.ygg_sym_spec.declared.layer.SymLayer.{SymLayer}
use Rattle.ygg_oblige.specs.Sites.{below_in}
use Rattle.ygg_sym.specs.ygg_sym_spec.declared.below.SymBelow.{SymBelow}
use Rattle.ygg_oblige_laws.specs.LayerTerms.{LayerTyped}
use Rattle.ygg_oblige_laws.specs.TermStates.{Starting, starting, state_words}
use Rattle.ygg_oblige_laws.proofs.EachKind.{all_known}
use Rattle.ygg_oblige_laws.proofs.Whole.{means_typed}
use Rattle.ygg_oblige.proofs.Ticks.{all_fit}
use Rattle.ygg_oblige.specs.Adding.{KnownAt, after_at, after_layer_at, layer_at, terms_at}

module _ (kinds : List RuleKind) (l : SymLayer) (g : SymBelow) where
  -- what the obligations speak of is known
  pub layer_known : LayerTyped l.defs.now (below_in g) (closed l) → (os : List Obligation) → os ≡ obligations_of l.layer.now → All (KnownAt kinds l g) os
  layer_known typed os e =
      let means = means_typed kinds l.defs.now (below_in g) (closed l) typed in
      subst (All (KnownAt kinds l g)) (sym e)
      (λ k d h. record { means = all_known kinds l.defs.now (below_in g) (closed l) typed means k d h; tick = all_fit l g typed k d h })

  module _ (number : ℕ) (old : List Node) (os : List Obligation) (start : ℕ) (h : os ≡ obligations_of l.layer.now) (k : start ≡ number + state_words (closed l))
    where
      abbrev first : Out Starting
      first = starting kinds (terms_in kinds l) (closed l) number old

      -- their terms
      pub layer_is : (S : Starting) (mid : List Node) → S ≡ first.value → mid ≡ first.nodes → terms_at kinds l g S os start mid ≡ layer_at kinds l g number old
      layer_is S mid e f =
          ap (λ (z : List Node). terms_at kinds l g S os start z) f ∙ ap (λ (z : Starting). terms_at kinds l g z os start first.nodes) e
          ∙ ap (λ (z : List Obligation). terms_at kinds l g first.value z start first.nodes) h
          ∙ ap (λ (n : ℕ). terms_at kinds l g first.value (obligations_of l.layer.now) n first.nodes) k

      -- and the number after their inputs
      pub after_is : after_at kinds l g os start ≡ after_layer_at kinds l g number
      after_is = ap (λ (z : List Obligation). after_at kinds l g z start) h ∙ ap (after_at kinds l g (obligations_of l.layer.now)) k
