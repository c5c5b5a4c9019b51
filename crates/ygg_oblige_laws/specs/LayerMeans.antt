-- What runs over terms on what one layer is specified over are worth.
use Rattle.std.specs.Prelude.{List, [], All, Option}
use Rattle.ygg_value.specs.declared.shape.Shape.{Shape}
use Rattle.ygg_syntax.specs.declared.tree.Def.{Def}
use Rattle.ygg_syntax.specs.declared.tree.Operation.{Operation}
use Rattle.ygg_syntax.specs.declared.tree.Tick.{Tick}
use Rattle.ygg_sym_laws.specs.ygg_meaning.Layer.{ClosedLayer}
use Rattle.ygg_sym_laws.specs.ygg_meaning.Refines.{Below}
use Rattle.ygg_sym_laws.specs.ygg_rules.declared.rule.RuleKind.{RuleKind}
use Rattle.ygg_sym_laws.specs.Typed.{AnswersAs}
use Rattle.ygg_sym_laws.specs.Means.{WholeMeans, FallMeans, LossMeans, StartMeans}

module _ (kinds : List RuleKind) (defs : List Def) (G : Below) (L : ClosedLayer) where
  -- the runs of an operation's implementation, whole and cut by power
  pub record OperationMeans (o : Operation) : Type 0 where
    pub shape : Option Shape
    pub answers : AnswersAs o o.implementation shape
    pub whole : WholeMeans kinds defs G L o.implementation L.layer.memory o.arguments shape
    pub falls : FallMeans kinds defs G L o.implementation L.layer.memory o.arguments

  -- the runs of a background step
  pub record TickMeans (t : Tick) : Type 0 where
    pub shape : Option Shape
    pub whole : WholeMeans kinds defs G L t.body L.layer.memory [] shape
    pub falls : FallMeans kinds defs G L t.body L.layer.memory []

  -- all runs of the layer's blocks, and what is below: at its start, and after power loss
  pub record LayerMeans : Type 0 where
    pub format_shape : Option Shape
    pub format_whole : WholeMeans kinds defs G L L.layer.format L.layer.memory [] format_shape
    pub recover_shape : Option Shape
    pub recover_whole : WholeMeans kinds defs G L L.layer.recover L.layer.memory [] recover_shape
    pub recover_falls : FallMeans kinds defs G L L.layer.recover L.layer.memory []
    pub operations : All OperationMeans L.layer.operations
    pub ticks : All TickMeans L.layer.ticks
    pub loss : LossMeans kinds defs G L
    pub start : StartMeans kinds defs G L
