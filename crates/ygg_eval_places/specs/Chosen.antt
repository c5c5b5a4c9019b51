-- Blocks of a specification with a bit for each place.
use Rattle.std.specs.Prelude.{◌≡◌, ℕ, Bool, IsTrue, List, [], ◌∷◌, ◌++◌, Some}
use Rattle.ygg_value.specs.Values.{digit}
use Rattle.ygg_value.specs.declared.row.Value.{Value}
use Rattle.ygg_syntax.specs.declared.grammar.BlockKind.TheVariants.{Spec}
use Rattle.ygg_syntax.specs.declared.tree.Block.{Block}
use Rattle.ygg_syntax.specs.declared.tree.File.{File}
use Rattle.ygg_syntax.specs.declared.tree.Layer.{Layer}
use Rattle.ygg_eval_places.specs.ygg_meaning.Environments.{bind}
use Rattle.ygg_eval_places.specs.ygg_meaning.Layer.{ClosedLayer}
use Rattle.ygg_eval_places.specs.ygg_meaning.Machine.{Picks}
use Rattle.ygg_eval_places.specs.ygg_meaning.Progress.{Question, Answer}
use Rattle.ygg_eval_places.specs.ygg_meaning.Shapes.{values_fit}
use Rattle.ygg_eval_places.specs.ygg_meaning_laws.Direct.{Handled}
use Rattle.ygg_eval_places.specs.ygg_meaning_laws.Places.{Result}
use Rattle.ygg_sym_laws.specs.ygg_sym_runs_proofs_Chosen.{block_end}
use Rattle.ygg_sym_laws.specs.Taking.{block_takes}
use Rattle.ygg_eval_places.specs.ygg_eval.Bodies.{IsBlock, arguments_in, variables_in}
use Rattle.ygg_eval_places.specs.ygg_eval.Layers.{closed_at, signatures_at}
use Rattle.ygg_eval_places.specs.ygg_eval.declared.body.Body.{Body}
use Rattle.ygg_eval_places.specs.Machines.{PlaceMeaning}
use Rattle.ygg_eval_places.specs.Bits.{bits_in}
use Rattle.ygg_eval_places.specs.declared.bits.Choices.{Choices}
use Rattle.ygg_eval_places.specs.declared.choices.ChoicePlaces.{ChoicePlaces}

-- a choice takes the bit of its place; the state is the picks that were taken so far
abbrev pub notes_choice : (ℕ → Bool) → ℕ → Question → Picks → Handled Picks
notes_choice bits i q taken = record { answer = Some (digit (bits i)); to = taken ++ bits i ∷ [] }

-- what blocks of a specification run on
abbrev pub choice_meaning : ChoicePlaces → PlaceMeaning (List Bool)
choice_meaning m = record {
  Is = Picks;
  state = λ picks. picks;
  kind = Spec;
  lower = signatures_at m.typed.now.file m.number;
  space = λ f. 1;
  handle = notes_choice (bits_in m.choices);
  Serves = Unit {0};
  Good = λ picks. Unit {0};
}

-- what a whole run of a block leaves: what it ends in with these bits by place, values that fit, and the picks that it takes after others
pub record Chose (m : ClosedLayer) (body : Body) (b : Block) (bits : ℕ → Bool) (args values : List Value) (answer : Answer) (values' : List Value)
    (picks picks' : Picks) : Type 0 where
  pub ended : record { vars = bind (variables_in m.layer body.part) values'; answer = answer }
      ≡ block_end m bits b (bind (variables_in m.layer body.part) values) (bind (arguments_in m.layer body.part body.number) args)
  pub fit : IsTrue (values_fit (variables_in m.layer body.part) values')
  pub taken : picks' ≡ picks ++ block_takes m bits b (bind (variables_in m.layer body.part) values) (bind (arguments_in m.layer body.part body.number) args)

-- so it is of the block that is meant
abbrev pub BlockChose : File → Body → List Value → List Value → Choices → Answer → List Value → Picks → Picks → Type 0
BlockChose file body args values choices answer values' picks picks' =
    (l : Layer) (b : Block) → IsBlock file body l b →
    Chose (closed_at file body.layer l) body b (bits_in choices) args values answer values' picks picks'
