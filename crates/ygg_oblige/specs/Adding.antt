-- Obligations of a layer added in order, in code.
use Rattle.std.specs.Prelude.{◌≡◌, ℕ, List, [], ◌∷◌, ◌++◌, map}
use Rattle.ygg_syntax.specs.declared.tree.Layer.{Layer}
use Rattle.ygg_oblige_laws.specs.ygg_meaning.Obligations.{Obligation, name_of}
use Rattle.ygg_oblige_laws.specs.ygg_rules.declared.rule.RuleKind.{RuleKind}
use Rattle.ygg_oblige_laws.specs.ygg_bank.Makes.{Make}
use Rattle.ygg_oblige_laws.specs.ygg_bank.declared.node.Id.{Id}
use Rattle.ygg_oblige_parts.specs.ygg_sym_spec.Layers.{closed, terms_in}
use Rattle.ygg_oblige_parts.specs.ygg_sym_spec.declared.layer.SymLayer.{SymLayer}
use Rattle.ygg_oblige.specs.Sites.{below_in}
use Rattle.ygg_sym.specs.ygg_sym_spec.declared.below.SymBelow.{SymBelow}
use Rattle.ygg_oblige.specs.Making.{TickFits}
use Rattle.ygg_oblige_laws.specs.ObligationMeans.{ObligationKnown}
use Rattle.ygg_oblige_laws.specs.Numbers.{numbers_of}
use Rattle.ygg_oblige_laws.specs.TermStates.{Starting}
use Rattle.ygg_oblige_laws.specs.Terms.{after_all, after_layer, layer_made, term_made, terms_made}
use Rattle.ygg_oblige_list.specs.Listing.{IsNumberIn}
use Rattle.ygg_oblige.specs.Kinds.{kind_in}
use Rattle.ygg_oblige.specs.declared.obligation.Obligation as code

-- the names of obligations of a layer, in order
abbrev pub names_of : SymLayer → List Obligation → List (List ℕ)
names_of l = map (name_of (l.layer.now).name.text)

-- an obligation is this one of the layer at a place
pub record IsAsked (place : ℕ) (l : Layer) (o : Obligation) (item : code.Obligation) : Type 0 where
  pub layer : item.layer ≡ place
  pub kind : item.kind ≡ kind_in o
  pub number : IsNumberIn l o item.number

-- the obligations are these of the layer at a place, in order
abbrev pub AreAsked : ℕ → Layer → List Obligation → List code.Obligation → Type 0
AreAsked place l [] [] = Unit {0}
AreAsked place l (o ∷ os) (item ∷ items) = IsAsked place l o item × AreAsked place l os items
AreAsked place l _ _ = ⊥

-- these obligations of the layer at a place are added to a list
pub record AddsAsked (place : ℕ) (l : Layer) (os : List Obligation) (old new : List code.Obligation) : Type 0 where
  pub items : List code.Obligation
  pub are : AreAsked place l os items
  pub added : new ≡ old ++ items

module _ (kinds : List RuleKind) (l : SymLayer) (g : SymBelow) where
  -- what the obligation's operation or background step is known to do; a background step has no type error
  pub record KnownAt (o : Obligation) : Type 0 where
    pub means : ObligationKnown kinds l.defs.now (below_in g) (closed l) o
    pub tick : TickFits l g o

  -- the number after the inputs of an obligation
  abbrev pub next_at : Obligation → ℕ → ℕ
  next_at o start = (numbers_of (below_in g) (closed l) o start).next

  -- the number after the inputs of obligations
  abbrev pub after_at : List Obligation → ℕ → ℕ
  after_at = after_all kinds (terms_in kinds l) (closed l) (below_in g)

  -- the terms of the layer's obligations
  abbrev pub layer_at : ℕ → Make (List Id)
  layer_at = layer_made kinds (terms_in kinds l) (closed l) (below_in g)

  -- the number after the layer's inputs
  abbrev pub after_layer_at : ℕ → ℕ
  after_layer_at = after_layer kinds (terms_in kinds l) (closed l) (below_in g)

  module _ (S : Starting) where
    -- the term of an obligation
    abbrev pub term_at : Obligation → ℕ → Make Id
    term_at o start = term_made kinds (terms_in kinds l) (closed l) (below_in g) S o (numbers_of (below_in g) (closed l) o start)

    -- the terms of obligations in order
    abbrev pub terms_at : List Obligation → ℕ → Make (List Id)
    terms_at = terms_made kinds (terms_in kinds l) (closed l) (below_in g) S
