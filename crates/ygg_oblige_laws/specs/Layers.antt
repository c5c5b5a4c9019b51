-- What is known of the layers of a file whose obligations' terms are made.
use Rattle.std.specs.Prelude.{List, [], ◌∷◌}
use Rattle.ygg_syntax.specs.declared.tree.Def.{Def}
use Rattle.ygg_syntax.specs.declared.tree.DiskText.{DiskText}
use Rattle.ygg_sym_laws.specs.ygg_meaning.Layer.{ClosedLayer}
use Rattle.ygg_sym_laws.specs.ygg_meaning.Refines.{Below}
use Rattle.ygg_sym_laws.specs.ygg_meaning.Stack.{Layers, below_of}
use Rattle.ygg_sym_laws.specs.ygg_rules.declared.rule.RuleKind.{RuleKind}
use Rattle.ygg_oblige_laws.specs.LayerTerms.{LayerTyped}
use Rattle.ygg_oblige_laws.specs.LayerMeans.{LayerMeans}

-- a layer without a type error on what it is specified over, and what its runs over terms are worth
pub record LayerKnown (kinds : List RuleKind) (defs : List Def) (G : Below) (L : ClosedLayer) : Type 0 where
  pub typed : LayerTyped defs G L
  pub means : LayerMeans kinds defs G L

-- each layer on those below
abbrev pub LayersKnown : List RuleKind → List Def → DiskText → Layers → Type 0
LayersKnown kinds defs disk [] = Unit {0}
LayersKnown kinds defs disk (L ∷ lower) = LayerKnown kinds defs (below_of disk lower) L × LayersKnown kinds defs disk lower
