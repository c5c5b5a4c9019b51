-- A layer whose obligations' terms are made, and the states that they begin with.
use Rattle.std.specs.Prelude.{List}
use Rattle.ygg_sym_spec.specs.ygg_meaning.Layer.{ClosedLayer}
use Rattle.ygg_sym_spec.specs.ygg_bank.Nodes.{HasWidth}
use Rattle.ygg_sym_spec.specs.ygg_bank.declared.node.Node.{Node}
use Rattle.ygg_sym_spec.specs.ygg_sym_runs.Lows.{LowShaped}
use Rattle.ygg_sym_spec.specs.Layers.{closed}
use Rattle.ygg_sym_spec.specs.declared.layer.SymLayer.{SymLayer}
use Rattle.ygg_sym_spec.specs.Sites.{below_in}
use Rattle.ygg_sym_spec.specs.declared.below.SymBelow.{SymBelow}
use Rattle.ygg_oblige_laws.specs.LayerTerms.{LayerTyped}
use Rattle.ygg_oblige_laws.specs.TermStates.{Trio, Starting}
use Rattle.ygg_oblige_laws.specs.Worth.{TrioShaped}
use Rattle.ygg_oblige_parts.specs.declared.states.SymTrio.{SymTrio}
use Rattle.ygg_oblige_parts.specs.declared.states.SymStarting.{SymStarting}

-- the layer has no type error on what it is specified over
abbrev pub LayerFits : SymLayer → SymBelow → Type 0
LayerFits l g = LayerTyped l.defs.now (below_in g) (closed l)

-- the states that these are
abbrev pub trio_of : SymTrio → Trio
trio_of x = record { vars = x.vars; memory = x.memory; low = x.low }

-- the beginning that this is
abbrev pub starting_of : SymStarting → Starting
starting_of s = record { related = s.related; from = trio_of s.from; settled = s.settled; settled_low = s.settled_low }

-- the states that obligations begin with have the declared shapes among the nodes
pub record StartingShaped (L : ClosedLayer) (nodes : List Node) (S : Starting) : Type 0 where
  pub related : HasWidth nodes S.related 1
  pub from : TrioShaped L nodes S.from
  pub settled : HasWidth nodes S.settled 1
  pub low : LowShaped nodes L.low S.settled_low
