-- What typing says of the operation that an obligation of a layer speaks of.
use Rattle.std.proofs.lemmas.List.Elements.{All-nil}
use Rattle.std.specs.Prelude.{List, []}
use Rattle.ygg_oblige_laws.specs.ygg_rules.declared.rule.RuleKind.{RuleKind}
use Rattle.ygg_syntax.specs.declared.tree.Declared.{Declared}
use Rattle.ygg_value.specs.Shapes.{IsShape}
use Rattle.ygg_oblige_laws.specs.ygg_meaning.Shapes.{shape_in}
use Rattle.ygg_oblige_laws.specs.ygg_meaning.Obligations.{Obligation, Init, CallOf, CutOf, TickOf, CutTickOf, Idle, Again}
use Rattle.ygg_oblige_parts.specs.ygg_sym_spec.Layers.{closed}
use Rattle.ygg_oblige_parts.specs.ygg_sym_spec.declared.layer.SymLayer.{SymLayer}
use Rattle.ygg_oblige.specs.Sites.{below_in}
use Rattle.ygg_sym.specs.ygg_sym_spec.declared.below.SymBelow.{SymBelow}
use Rattle.ygg_oblige_laws.specs.LayerTerms.{ShapesKept}
use Rattle.ygg_oblige_laws.specs.Numbers.{arguments_of}
use Rattle.ygg_oblige_laws.specs.Steps.{ObligationTyped}
use Rattle.ygg_oblige.specs.Adding.{KnownAt}

nothing_kept : ShapesKept []
nothing_kept = All-nil (λ (d : Declared). IsShape (shape_in d.shape))

module _ (kinds : List RuleKind) (l : SymLayer) (g : SymBelow) where
  -- it has no type error
  pub known_typed : (o : Obligation) → KnownAt kinds l g o → ObligationTyped l.defs.now (below_in g) (closed l) o
  known_typed Init k = tt
  known_typed (CallOf o) k = k.means.fits
  known_typed (CutOf o) k = k.means.fits
  known_typed (TickOf t) k = tt
  known_typed (CutTickOf t) k = tt
  known_typed Idle k = tt
  known_typed Again k = tt

  -- and the shapes of its arguments keep the limits
  pub known_shapes : (o : Obligation) → KnownAt kinds l g o → ShapesKept (arguments_of o)
  known_shapes Init k = nothing_kept
  known_shapes (CallOf o) k = k.means.fits.shapes
  known_shapes (CutOf o) k = k.means.fits.shapes
  known_shapes (TickOf t) k = nothing_kept
  known_shapes (CutTickOf t) k = nothing_kept
  known_shapes Idle k = nothing_kept
  known_shapes Again k = nothing_kept
