-- Blocks in code, with all that they are run over.
use Rattle.std.specs.Prelude.{Bool, true, false, IsTrue, List, []}
use Rattle.ygg_syntax.specs.declared.grammar.BlockKind.TheVariants.{Impl}
use Rattle.ygg_syntax.specs.declared.tree.Declared.{Declared}
use Rattle.ygg_type_rules.specs.Definitions.{definitions_errors}
use Rattle.ygg_type_rules.specs.TypeErrors.{none}
use Rattle.ygg_meaning_laws.specs.Kinds.{may_call}
use Rattle.ygg_bank.specs.declared.node.Node.{Node}
use Rattle.ygg_sym_laws.specs.Below.{signatures_on}
use Rattle.ygg_sym_laws.specs.Typed.{BlockTyped, SpecBlockTyped}
use Rattle.ygg_sym_spec.specs.Layers.{closed}
use Rattle.ygg_eval.specs.Bodies.{kind_of, variables_in}
use Rattle.ygg_eval.specs.declared.body.Part.{Part}
use Rattle.ygg_sym.specs.Kept.{AreKept}
use Rattle.ygg_sym.specs.Sites.{BelowFits, below_in}
use Rattle.ygg_sym.specs.declared.runs.SymBlock.{SymBlock}
use Rattle.ygg_sym_bodies.specs.Sites.{IsShaped, Site}
use Rattle.ygg_sym_bodies.specs.declared.state.SymState.{SymState}

-- a block that sees these variables, and may call what is below or not
abbrev pub site_with : SymBlock → List Declared → Bool → Site
site_with at vars calls = record {
  defs = at.layer.defs.now;
  below = below_in at.below;
  layer = closed at.layer;
  block = at.block.now;
  vars = vars;
  args = at.names.now;
  calls = calls;
}

-- a block that may call what is below
abbrev pub called_site : SymBlock → Site
called_site at = site_with at (at.layer.layer.now).memory true

-- a block that runs on no machine
abbrev pub chosen_site : SymBlock → Site
chosen_site at = site_with at (at.layer.layer.now).state false

-- a block of the part
abbrev pub site_in : SymBlock → Part → Site
site_in at part = site_with at (variables_in at.layer.layer.now part) (may_call (kind_of part))

-- a block without a type error: one of an implementation, over the layer's memory, or one of a specification, over its state
abbrev pub TypedAs : SymBlock → Bool → Type 0
TypedAs at true = BlockTyped at.layer.defs.now (closed at.layer) Impl (signatures_on (below_in at.below)) at.block.now (at.layer.layer.now).memory at.names.now
TypedAs at false = SpecBlockTyped at.layer.defs.now (closed at.layer) at.block.now at.names.now

-- a block without a type error on what its layer is specified over
pub record SiteFits (at : SymBlock) (part : Part) : Type 0 where
  pub below : BelowFits at.layer at.below
  pub typed : TypedAs at (may_call (kind_of part))
  pub kept : AreKept (variables_in at.layer.layer.now part)

-- a block that runs on no machine has no type error, and terms of the declared shapes stand among the nodes
pub record CanChoose (at : SymBlock) (nodes : List Node) (from : SymState) : Type 0 where
  pub sound : IsTrue (none (definitions_errors at.layer.defs.now [] []))
  pub typed : SpecBlockTyped at.layer.defs.now (closed at.layer) at.block.now at.names.now
  pub shaped : IsShaped (chosen_site at) nodes from
