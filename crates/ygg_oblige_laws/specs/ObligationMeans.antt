-- What is known of the operation or background step that an obligation of a layer speaks of.
use Rattle.ygg_syntax.specs.declared.tree.Def.{Def}
use Rattle.std.specs.Prelude.{List}
use Rattle.ygg_syntax.specs.declared.tree.Operation.{Operation}
use Rattle.ygg_sym_laws.specs.ygg_meaning.Layer.{ClosedLayer}
use Rattle.ygg_sym_laws.specs.ygg_meaning.Obligations.{Obligation, Init, CallOf, CutOf, TickOf, CutTickOf, Idle, Again}
use Rattle.ygg_sym_laws.specs.ygg_meaning.Refines.{Below}
use Rattle.ygg_sym_laws.specs.ygg_rules.declared.rule.RuleKind.{RuleKind}
use Rattle.ygg_oblige_laws.specs.LayerTerms.{OperationFits}
use Rattle.ygg_oblige_laws.specs.LayerMeans.{OperationMeans, TickMeans}

-- an operation without a type error, and what its runs over terms are worth
pub record OperationKnown (kinds : List RuleKind) (defs : List Def) (G : Below) (L : ClosedLayer) (o : Operation) : Type 0 where
  pub fits : OperationFits defs G L o
  pub means : OperationMeans kinds defs G L o

-- the operation that an obligation speaks of, or the background step
abbrev pub ObligationKnown : List RuleKind → List Def → Below → ClosedLayer → Obligation → Type 0
ObligationKnown kinds defs G L Init = Unit {0}
ObligationKnown kinds defs G L (CallOf o) = OperationKnown kinds defs G L o
ObligationKnown kinds defs G L (CutOf o) = OperationKnown kinds defs G L o
ObligationKnown kinds defs G L (TickOf t) = TickMeans kinds defs G L t
ObligationKnown kinds defs G L (CutTickOf t) = TickMeans kinds defs G L t
ObligationKnown kinds defs G L Idle = Unit {0}
ObligationKnown kinds defs G L Again = Unit {0}
