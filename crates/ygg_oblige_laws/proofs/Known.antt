-- What is known of the block that an obligation speaks of: what its runs over terms leave, and the runs that they are worth, with their picks.
use Rattle.std.proofs.Common.{List, [], ◌∷◌, ◌++◌}
use Rattle.std.proofs.lemmas.List.Elements.{All-nil, All-cons, All-head, All-tail, All-append}
use Rattle.std.specs.List.{flat_map}
use Rattle.std.specs.Prelude.{All}
use Rattle.ygg_syntax.specs.declared.grammar.BlockKind.TheVariants.{Impl}
use Rattle.ygg_syntax.specs.declared.tree.Def.{Def}
use Rattle.ygg_syntax.specs.declared.tree.Operation.{Operation}
use Rattle.ygg_syntax.specs.declared.tree.Tick.{Tick}
use Rattle.ygg_oblige_laws.specs.ygg_meaning.Layer.{ClosedLayer}
use Rattle.ygg_oblige_laws.specs.ygg_meaning.Obligations.{Obligation, Init, CallOf, CutOf, TickOf, CutTickOf, Idle, Again, obligations_of}
use Rattle.ygg_oblige_laws.specs.ygg_meaning.Refines.{Below}
use Rattle.ygg_oblige_laws.specs.ygg_rules.declared.rule.RuleKind.{RuleKind}
use Rattle.ygg_oblige_laws.specs.ygg_sym_laws.Below.{signatures_on}
use Rattle.ygg_oblige_laws.specs.ygg_sym_laws.Typed.{BlockTyped}
use Rattle.ygg_sym_laws.proofs.FrontAnyLayer.{runs_are_named, falls_are_named}
use Rattle.ygg_sym_laws.specs.SymLaws.{OverTyped}
use Rattle.ygg_sym_laws.specs.Named.{RunNamed, FallNamed}
use Rattle.ygg_oblige_laws.specs.LayerTerms.{OperationFits, LayerTyped}
use Rattle.ygg_oblige_laws.specs.Numbers.{arguments_of, block_of}
use Rattle.ygg_oblige_laws.specs.LayerMeans.{OperationMeans, TickMeans, LayerMeans}
use Rattle.ygg_oblige_laws.specs.ObligationMeans.{OperationKnown, ObligationKnown}

module _ (kinds : List RuleKind) (defs : List Def) (G : Below) (L : ClosedLayer) where
  -- what is known of an obligation
  pub record Known (o : Obligation) : Type 0 where
    pub means : ObligationKnown kinds defs G L o
    pub runs : RunNamed kinds defs G L (block_of L o) L.layer.memory (arguments_of o)
    pub falls : FallNamed kinds defs G L (block_of L o) L.layer.memory (arguments_of o)

  module _ (over : OverTyped defs G L) where
    known_of : (o : Obligation) → ObligationKnown kinds defs G L o → BlockTyped defs L Impl (signatures_on G) (block_of L o) L.layer.memory (arguments_of o) →
        Known o
    known_of o means block = record {
      means = means;
      runs = runs_are_named kinds defs G L (block_of L o) L.layer.memory (arguments_of o) over block;
      falls = falls_are_named kinds defs G L (block_of L o) L.layer.memory (arguments_of o) over block;
    }

    calls_known : (os : List Operation) → All (OperationFits defs G L) os → All (OperationMeans kinds defs G L) os →
        All Known (flat_map (λ (o : Operation). CallOf o ∷ CutOf o ∷ []) os)
    calls_known [] f m = All-nil Known
    calls_known (o ∷ os) f m =
        let fits = All-head (OperationFits defs G L) o os f in
        let known : OperationKnown kinds defs G L o = record { fits = fits; means = All-head (OperationMeans kinds defs G L) o os m } in
        let rest = flat_map (λ (o : Operation). CallOf o ∷ CutOf o ∷ []) os in
        All-cons Known (CallOf o) (CutOf o ∷ rest) (known_of (CallOf o) known fits.implementation)
        (All-cons Known (CutOf o) rest (known_of (CutOf o) known fits.implementation)
        (calls_known os (All-tail (OperationFits defs G L) o os f) (All-tail (OperationMeans kinds defs G L) o os m)))

    abbrev TickTyped : Tick → Type 0
    TickTyped t = BlockTyped defs L Impl (signatures_on G) t.body L.layer.memory []

    ticks_known : (ts : List Tick) → All TickTyped ts → All (TickMeans kinds defs G L) ts →
        All Known (flat_map (λ (t : Tick). TickOf t ∷ CutTickOf t ∷ []) ts)
    ticks_known [] f m = All-nil Known
    ticks_known (t ∷ ts) f m =
        let block = All-head TickTyped t ts f in
        let known = All-head (TickMeans kinds defs G L) t ts m in
        let rest = flat_map (λ (t : Tick). TickOf t ∷ CutTickOf t ∷ []) ts in
        All-cons Known (TickOf t) (CutTickOf t ∷ rest) (known_of (TickOf t) known block)
        (All-cons Known (CutTickOf t) rest (known_of (CutTickOf t) known block)
        (ticks_known ts (All-tail TickTyped t ts f) (All-tail (TickMeans kinds defs G L) t ts m)))

    -- of each obligation of a layer without a type error
    pub all_known : LayerTyped defs G L → LayerMeans kinds defs G L → All Known (obligations_of L.layer)
    all_known typed means =
        let calls = flat_map (λ (o : Operation). CallOf o ∷ CutOf o ∷ []) L.layer.operations in
        let ticks = flat_map (λ (t : Tick). TickOf t ∷ CutTickOf t ∷ []) L.layer.ticks in
        let two = All-cons Known Idle (Again ∷ []) (known_of Idle tt typed.recover_typed)
        (All-cons Known Again [] (known_of Again tt typed.recover_typed) (All-nil Known)) in
        let steps = All-append Known calls ticks (calls_known L.layer.operations typed.operations_typed means.operations)
        (ticks_known L.layer.ticks typed.ticks_typed means.ticks) in
        All-cons Known Init ((calls ++ ticks) ++ Idle ∷ Again ∷ []) (known_of Init tt typed.format_typed)
        (All-append Known (calls ++ ticks) (Idle ∷ Again ∷ []) steps two)
