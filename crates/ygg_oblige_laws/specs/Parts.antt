-- The laws of the parts that obligations' terms are made of.
use Rattle.std.specs.Prelude.{List}
use Rattle.ygg_syntax.specs.declared.tree.Def.{Def}
use Rattle.ygg_sym_laws.specs.ygg_meaning.Layer.{ClosedLayer}
use Rattle.ygg_sym_laws.specs.ygg_meaning.Refines.{Below}
use Rattle.ygg_sym_laws.specs.ygg_rules.declared.rule.RuleKind.{RuleKind}
use Rattle.ygg_oblige_laws.specs.Inputs.{FreshMeans, GluedMeans}
use Rattle.ygg_oblige_laws.specs.States.{ComparingMeans, StatesMean}
use Rattle.ygg_oblige_laws.specs.Steps.{StepsMean}

-- fresh values, glued environments, comparisons, a layer's states and its specification's steps
pub record PartsMean (kinds : List RuleKind) (defs : List Def) (G : Below) (L : ClosedLayer) : Type 0 where
  pub fresh : FreshMeans
  pub glue : GluedMeans
  pub comparing : ComparingMeans kinds
  pub states : StatesMean kinds defs G L
  pub steps : StepsMean kinds defs G L
