-- Values of their types have the shapes that are declared.
use Rattle.std.proofs.Common.{◌≡◌, ℕ, true, List, [], ◌∷◌, Some, refl, sym, ap, ◌∙◌}
use Rattle.std.specs.Prelude.{◌&&◌}
use Rattle.std.proofs.lemmas.Bool.{and_from}
use Rattle.ygg_value.specs.Shapes.{shape_of as value_shape}
use Rattle.ygg_value.specs.declared.row.Value.{Value}
use Rattle.ygg_value.specs.declared.shape.Shape.{Shape}
use Rattle.ygg_value.specs.declared.shape.Shape.TheVariants as shape
use Rattle.ygg_syntax.specs.declared.tree.Declared.{Declared}
use Rattle.ygg_syntax.specs.declared.tree.TypeText.{TypeText}
use Rattle.ygg_syntax.specs.declared.tree.TypeText.TheVariants as text
use Rattle.ygg_syntax.specs.declared.tree.Layer.{Layer}
use Rattle.ygg_syntax.specs.declared.tree.File.{File}
use Rattle.ygg_replay.specs.ygg_type_rules.Limits.{width_fits, words_fit, rows_fit, words_fit_in}
use Rattle.ygg_replay.specs.ygg_type_rules.Shapes.{shape_of}
use Rattle.ygg_replay.specs.ygg_meaning.Obligations.{Obligation, Init, CallOf, CutOf, TickOf, CutTickOf, Idle, Again}
use Rattle.ygg_replay.specs.ygg_meaning.Shapes.{fits, shape_in, values_fit}
use Rattle.ygg_replay.specs.ygg_meaning_laws_proofs_Fits.{value_fits}
use Rattle.ygg_replay.specs.ygg_eval.Layers.{variables_at}
use Rattle.ygg_replay.specs.ygg_sched.declared.schedule.Schedule.{Schedule}
use Rattle.ygg_replay.specs.ygg_sched.Fitting.{IsOfType, AreOfTypes, IsAt}
use Rattle.ygg_replay.proofs.of_ygg_sched.Shaped.{chosen}
use Rattle.ygg_replay.specs.Schedules.{schedule_fits, states_fit}

-- the shape that a type names is the one that it stands for
named_is : (t : TypeText) (s : Shape) → shape_of t ≡ Some s → shape_in t ≡ s
named_is (text.Word w) s e = (chosen (width_fits w.value) (shape.Word w.value) s e).1
named_is (text.Row m w) s e = (chosen (words_fit m.value && width_fits w.value) (shape.Row m.value w.value) s e).1
named_is (text.Table n m w) s e =
    (chosen (rows_fit n.value && words_fit_in n.value m.value && width_fits w.value) (shape.Table n.value m.value w.value) s e).1

-- a value of a type has its shape
one_fits : (t : TypeText) (v : Value) → IsOfType t v → fits (shape_in t) v ≡ true
one_fits t v is = ap (λ (s : Shape). fits s v) (named_is t (value_shape v) is.shape) ∙ value_fits v is.value

-- values of their types have their shapes
all_fit : (ds : List Declared) (vs : List Value) → AreOfTypes ds vs → values_fit ds vs ≡ true
all_fit [] [] is = refl
all_fit [] (v ∷ vs) is = absurd is
all_fit (d ∷ ds) [] is = absurd is
all_fit (d ∷ ds) (v ∷ vs) is = and_from (fits (shape_in d.shape) v) (values_fit ds vs) (one_fits d.shape v is.0) (all_fit ds vs is.1)

module _ (f : File) (place : ℕ) (l : Layer) (low : List Declared) (x : Schedule) (is : low ≡ variables_at f place) where
  -- the values below
  low_fit : AreOfTypes low x.low → values_fit (variables_at f place) x.low ≡ true
  low_fit h = ap (λ (ds : List Declared). values_fit ds x.low) (sym is) ∙ all_fit low x.low h

  -- the values of the states
  states : AreOfTypes l.state x.state → AreOfTypes l.memory x.memory → AreOfTypes low x.low → states_fit f place l x ≡ true
  states a b c =
      and_from (values_fit l.state x.state) (values_fit l.memory x.memory && values_fit (variables_at f place) x.low) (all_fit l.state x.state a)
      (and_from (values_fit l.memory x.memory) (values_fit (variables_at f place) x.low) (all_fit l.memory x.memory b) (low_fit c))

  -- the values of a schedule of an obligation
  pub schedule_fit : (o : Obligation) → IsAt (record { place = place; layer = l; low = low; obligation = o }) x → schedule_fits f place l x o ≡ true
  schedule_fit Init h = refl
  schedule_fit (CallOf o) h =
      and_from (states_fit f place l x) (values_fit o.arguments x.args) (states h.state h.memory h.low) (all_fit o.arguments x.args h.args)
  schedule_fit (CutOf o) h =
      and_from (states_fit f place l x) (values_fit o.arguments x.args) (states h.state h.memory h.low) (all_fit o.arguments x.args h.args)
  schedule_fit (TickOf t) h = states h.state h.memory h.low
  schedule_fit (CutTickOf t) h = states h.state h.memory h.low
  schedule_fit Idle h = states h.state h.memory h.low
  schedule_fit Again h = low_fit h.low
