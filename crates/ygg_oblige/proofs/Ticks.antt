-- The background steps that a layer's obligations speak of have no type error.
use Rattle.std.proofs.Common.{List, [], ◌∷◌, ◌++◌}
use Rattle.std.specs.Prelude.{All}
use Rattle.std.specs.List.{flat_map}
use Rattle.std.proofs.lemmas.List.Elements.{All-append, All-cons, All-head, All-nil, All-tail}
use Rattle.ygg_syntax.specs.declared.grammar.BlockKind.TheVariants.{Impl}
use Rattle.ygg_syntax.specs.declared.tree.Operation.{Operation}
use Rattle.ygg_syntax.specs.declared.tree.Tick.{Tick}
use Rattle.ygg_oblige_laws.specs.ygg_meaning.Obligations.{Obligation, Init, CallOf, CutOf, TickOf, CutTickOf, Idle, Again, obligations_of}
use Rattle.ygg_oblige_laws.specs.ygg_sym_laws.Below.{signatures_on}
use Rattle.ygg_oblige_laws.specs.ygg_sym_laws.Typed.{BlockTyped}
use Rattle.ygg_oblige_parts.specs.ygg_sym_spec.Layers.{closed}
use Rattle.ygg_oblige_parts.specs.ygg_sym_spec.declared.layer.SymLayer.{SymLayer}
use Rattle.ygg_oblige.specs.Sites.{below_in}
use Rattle.ygg_sym.specs.ygg_sym_spec.declared.below.SymBelow.{SymBelow}
use Rattle.ygg_oblige_laws.specs.LayerTerms.{LayerTyped}
use Rattle.ygg_oblige.specs.Making.{TickFits}

module _ (l : SymLayer) (g : SymBelow) where
  abbrev Fits : Obligation → Type 0
  Fits = TickFits l g

  abbrev TickTyped : Tick → Type 0
  TickTyped t = BlockTyped l.defs.now (closed l) Impl (signatures_on (below_in g)) t.body (l.layer.now).memory []

  calls_fit : (os : List Operation) → All Fits (flat_map (λ (o : Operation). CallOf o ∷ CutOf o ∷ []) os)
  calls_fit [] = All-nil Fits
  calls_fit (o ∷ os) =
      let rest = flat_map (λ (o : Operation). CallOf o ∷ CutOf o ∷ []) os in
      All-cons Fits (CallOf o) (CutOf o ∷ rest) tt (All-cons Fits (CutOf o) rest tt (calls_fit os))

  ticks_fit : (ts : List Tick) → All TickTyped ts → All Fits (flat_map (λ (t : Tick). TickOf t ∷ CutTickOf t ∷ []) ts)
  ticks_fit [] h = All-nil Fits
  ticks_fit (t ∷ ts) h =
      let rest = flat_map (λ (t : Tick). TickOf t ∷ CutTickOf t ∷ []) ts in
      let typed = All-head TickTyped t ts h in
      All-cons Fits (TickOf t) (CutTickOf t ∷ rest) typed (All-cons Fits (CutTickOf t) rest typed (ticks_fit ts (All-tail TickTyped t ts h)))

  pub all_fit : LayerTyped l.defs.now (below_in g) (closed l) → All Fits (obligations_of l.layer.now)
  all_fit typed =
      let calls = flat_map (λ (o : Operation). CallOf o ∷ CutOf o ∷ []) (l.layer.now).operations in
      let ticks = flat_map (λ (t : Tick). TickOf t ∷ CutTickOf t ∷ []) (l.layer.now).ticks in
      let two = All-cons Fits Idle (Again ∷ []) tt (All-cons Fits Again [] tt (All-nil Fits)) in
      let steps = All-append Fits calls ticks (calls_fit (l.layer.now).operations) (ticks_fit (l.layer.now).ticks typed.ticks_typed) in
      All-cons Fits Init ((calls ++ ticks) ++ Idle ∷ Again ∷ []) tt (All-append Fits (calls ++ ticks) (Idle ∷ Again ∷ []) steps two)
