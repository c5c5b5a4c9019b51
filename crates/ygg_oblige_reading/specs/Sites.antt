-- The obligation at a place in a file's list.
use Rattle.std.specs.Prelude.{◌≡◌, ℕ, ◌+◌, List, ◌∷◌, ◌++◌, length, take, slice_get, Some}
use Rattle.ygg_syntax.specs.declared.tree.File.{File}
use Rattle.ygg_oblige_list.specs.ygg_meaning.Layer.{ClosedLayer}
use Rattle.ygg_oblige_list.specs.ygg_meaning.Meaning.{functions_of}
use Rattle.ygg_oblige_list.specs.ygg_meaning.Obligations.{obligations_of}
use Rattle.ygg_oblige_list.specs.ygg_meaning.Claims.{claims_of, claims_on}
use Rattle.ygg_oblige_list.specs.ygg_meaning.Stack.{Layers, below_of, layers_of}
use Rattle.ygg_rules.specs.declared.rule.RuleKind.{RuleKind}
use Rattle.ygg_oblige.specs.ygg_sym_laws.Means.{terms_of}
use Rattle.ygg_oblige.specs.ygg_oblige_laws.LayerTerms.{LayerTyped}
use Rattle.ygg_oblige.specs.ygg_oblige_laws.Numbers.{numbers_of}
use Rattle.ygg_oblige.specs.ygg_oblige_laws.TermStates.{state_words}
use Rattle.ygg_oblige.specs.ygg_oblige_laws.Terms.{after_all, after_layers}
pub use Rattle.ygg_oblige.specs.declared.obligation.Kind.TheVariants.{Init}
pub use Rattle.ygg_oblige_schedule.specs.Here.{obligation_here}
use Rattle.ygg_oblige.specs.Numbering.{numbers_in}
use Rattle.ygg_oblige.specs.ygg_sym_spec.Layers.{closed}
use Rattle.ygg_oblige.specs.ygg_sym_spec.declared.layer.SymLayer.{SymLayer}
use Rattle.ygg_oblige.specs.Sites.{below_in}
use Rattle.ygg_oblige.specs.ygg_sym_spec.declared.below.SymBelow.{SymBelow}
use Rattle.ygg_oblige.specs.Adding.{after_at}
use Rattle.ygg_oblige_schedule.specs.ygg_eval.Layers.{below_at, closed_at, variables_at}
use Rattle.ygg_oblige.specs.ygg_bank.Values.{Inputs}
use Rattle.ygg_oblige.specs.ygg_oblige_laws.Schedules.{all_schedules, schedule_of}
use Rattle.ygg_oblige_reading.specs.Listing.{StandsIn}
use Rattle.ygg_oblige_schedule.specs.declared.site.Site.{Site}

-- the layer in a file
abbrev pub layer_here : File → Site → ClosedLayer
layer_here f s = record { functions = functions_of f.defs; layer = s.layer.now; low = s.low.now }

-- The obligation at a place in the list of a layer with a place, on what it is specified over: the inputs of the layer's states are numbered on from a
-- number, and its own from the number after those of the obligations before it in the layer.
pub record IsInLayer (kinds : List RuleKind) (l : SymLayer) (g : SymBelow) (layer states at : ℕ) (s : Site) : Type 0 where
  pub layer_is : s.layer.now ≡ l.layer.now
  pub place_is : s.place ≡ layer
  pub low_is : s.low.now ≡ l.low.now
  pub listed : slice_get (obligations_of l.layer.now) at ≡ Some (obligation_here s)
  pub stands : StandsIn (l.layer.now).operations (l.layer.now).ticks (obligation_here s) s.number
  pub states_is : s.states ≡ states
  pub numbers : numbers_in s.numbers
      ≡ numbers_of (below_in g) (closed l) (obligation_here s)
      (after_at kinds l g (take at (obligations_of l.layer.now)) (states + state_words (closed l)))

-- The obligation at a place in a file's list, over the layers that stand below its own: the inputs of the layer's states are numbered on from the number
-- after those of the layers below, and its own from the number after those of the obligations before it in its layer.
pub record IsSite (kinds : List RuleKind) (f : File) (place : ℕ) (s : Site) : Type 0 where
  pub upper : Layers
  pub lower : Layers
  pub layers : layers_of f ≡ upper ++ layer_here f s ∷ lower
  pub counts : length lower ≡ s.place
  pub at : ℕ
  pub place_is : length (claims_on f.disk lower) + at ≡ place
  pub listed : slice_get (obligations_of s.layer.now) at ≡ Some (obligation_here s)
  pub stands : StandsIn (s.layer.now).operations (s.layer.now).ticks (obligation_here s) s.number
  pub states : s.states ≡ after_layers kinds (terms_of kinds f.defs) f.disk lower
  pub numbers : numbers_in s.numbers
      ≡ numbers_of (below_of f.disk lower) (layer_here f s) (obligation_here s)
      (after_all kinds (terms_of kinds f.defs) (layer_here f s) (below_of f.disk lower) (take at (obligations_of s.layer.now))
      (s.states + state_words (layer_here f s)))
  pub typed : LayerTyped f.defs (below_of f.disk lower) (layer_here f s)

-- The obligation at a place in a file's list, by the number of its layer: its claim, and the schedule that each environment names for it.
pub record IsPlaced (kinds : List RuleKind) (f : File) (place : ℕ) (s : Site) : Type 0 where
  pub here : slice_get f.layers s.place ≡ Some s.layer.now
  pub low_is : s.low.now ≡ variables_at f s.place
  pub claim : slice_get (claims_of f) place
      ≡ Some (record { layer = closed_at f s.place s.layer.now; below = below_at f s.place; obligation = obligation_here s })
  pub names : (inputs : Inputs) → slice_get (all_schedules kinds (terms_of kinds f.defs) f.disk inputs (layers_of f)) place
      ≡ Some (schedule_of (below_at f s.place) (closed_at f s.place s.layer.now) inputs s.states (obligation_here s) s.numbers.args)
  pub numbers : numbers_in s.numbers ≡ numbers_of (below_at f s.place) (closed_at f s.place s.layer.now) (obligation_here s) s.numbers.args
  pub stands : StandsIn (s.layer.now).operations (s.layer.now).ticks (obligation_here s) s.number
  pub typed : LayerTyped f.defs (below_at f s.place) (closed_at f s.place s.layer.now)
