-- Single steps of the machine below, on values.
use Rattle.std.specs.Prelude.{◌≡◌, ℕ, Bool, false, IsTrue, List, [], ◌∷◌, ◌++◌, slice_get, Some, None}
use Rattle.ygg_value.specs.declared.row.Value.{Value}
use Rattle.ygg_syntax.specs.declared.tree.Block.{Block}
use Rattle.ygg_syntax.specs.declared.tree.File.{File}
use Rattle.ygg_syntax.specs.declared.tree.Layer.{Layer}
use Rattle.ygg_eval.specs.ygg_disk.declared.power.Power.{Power}
use Rattle.ygg_eval.specs.ygg_disk.declared.turn.Turn.{Turn}
use Rattle.ygg_eval.specs.ygg_disk.declared.turn.Turn.TheVariants as turn
use Rattle.ygg_eval.specs.ygg_meaning.Environments.{Env, bind}
use Rattle.ygg_eval.specs.ygg_meaning.Layer.{ClosedLayer}
use Rattle.ygg_eval.specs.ygg_meaning.Machine.{Picks, State, based}
use Rattle.ygg_eval.specs.ygg_meaning.Progress.{Answer, Question}
use Rattle.ygg_eval.specs.ygg_meaning.Shapes.{values_fit}
use Rattle.ygg_eval_places.specs.ygg_sym_laws.Fronts.{handle_on, takes_on, cut_on, cut_takes_on, lose_on, lose_takes_on}
use Rattle.ygg_eval_places.specs.ygg_sym_laws.Taking.{crash_takes, then_takes}
use Rattle.ygg_eval_places.specs.ygg_sym_runs_proofs_SpecFalls.{crash_end, then_end}
use Rattle.ygg_eval.specs.Bodies.{arguments_in}
use Rattle.ygg_eval.specs.Layers.{below_at, closed_at, variables_at}
use Rattle.ygg_eval.specs.declared.body.Body.{Body}

-- power with one pick
abbrev pub one_pick : Bool → Power
one_pick pick = record { picks = record { bits = pick ∷ []; next = 0; past = false }; fuse = None; passed = 0; events = None }

-- what a call answered that ended whole
abbrev pub whole_answer : Turn → Answer
whole_answer turn.Done = None
whole_answer (turn.Answer v) = Some v
whole_answer turn.Down = None
whole_answer turn.Failed = None

module _ (file : File) (number : ℕ) where
  -- the state that these values are
  abbrev pub state_of : List Value → State Env
  state_of low = based (bind (variables_at file number) low)

  -- a question at a place was answered so
  pub record Answered (bits : ℕ → Bool) (i : ℕ) (q : Question) (low : List Value) (given : Answer) (low' : List Value) (picks picks' : Picks) : Type 0 where
    pub answer : given ≡ (handle_on (below_at file number) bits i q (state_of low)).answer
    pub to : state_of low' ≡ (handle_on (below_at file number) bits i q (state_of low)).to
    pub fit : IsTrue (values_fit (variables_at file number) low')
    pub taken : picks' ≡ picks ++ takes_on (below_at file number) bits i q (state_of low)

  -- power failed within a question and left this
  pub record FellWithin (last : ℕ → Bool) (q : Question) (low fallen : List Value) (picks picks' : Picks) : Type 0 where
    pub base : bind (variables_at file number) fallen ≡ cut_on (below_at file number) last q (state_of low)
    pub fit : IsTrue (values_fit (variables_at file number) fallen)
    pub taken : picks' ≡ picks ++ cut_takes_on (below_at file number) last q (state_of low)

  -- power failed between questions and left this
  pub record FellBetween (last : ℕ → Bool) (low fallen : List Value) (picks picks' : Picks) : Type 0 where
    pub base : bind (variables_at file number) fallen ≡ lose_on (below_at file number) last (state_of low)
    pub fit : IsTrue (values_fit (variables_at file number) fallen)
    pub taken : picks' ≡ picks ++ lose_takes_on (below_at file number) last (state_of low)

-- what the `crash` block of a layer leaves, with the picks that it takes
pub record CrashedOf (m : ClosedLayer) (bits : ℕ → Bool) (low low' : List Value) (picks picks' : Picks) : Type 0 where
  pub left : bind m.layer.state low' ≡ crash_end m bits (bind m.layer.state low)
  pub fit : IsTrue (values_fit m.layer.state low')
  pub taken : picks' ≡ picks ++ crash_takes m bits (bind m.layer.state low)

-- so it is of the layer that is meant
abbrev pub Crashed : File → ℕ → (ℕ → Bool) → List Value → List Value → Picks → Picks → Type 0
Crashed file layer bits low low' picks picks' =
    (l : Layer) → slice_get file.layers layer ≡ Some l → CrashedOf (closed_at file layer l) bits low low' picks picks'

-- what a block and then the `crash` block leave, with the picks that they take
pub record ThenCrashed (file : File) (l : Layer) (body : Body) (b : Block) (bits : ℕ → Bool) (args low low' : List Value) (picks picks' : Picks) :
    Type 0 where
  pub left : bind l.state low'
      ≡ then_end (closed_at file body.layer l) bits b (bind l.state low) (bind (arguments_in l body.part body.number) args)
  pub fit : IsTrue (values_fit l.state low')
  pub taken : picks'
      ≡ picks ++ then_takes (closed_at file body.layer l) bits b (bind l.state low) (bind (arguments_in l body.part body.number) args)
