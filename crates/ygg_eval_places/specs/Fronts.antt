-- What runs by place come to.
use Rattle.std.specs.Prelude.{◌≡◌, IsTrue, List, Option, Some, None}
use Rattle.ygg_value.specs.declared.row.Value.{Value}
use Rattle.ygg_syntax.specs.declared.tree.Block.{Block}
use Rattle.ygg_syntax.specs.declared.tree.File.{File}
use Rattle.ygg_syntax.specs.declared.tree.Layer.{Layer}
use Rattle.ygg_eval.specs.ygg_meaning.Environments.{Env, bind}
use Rattle.ygg_eval.specs.ygg_meaning.Layer.{ClosedLayer}
use Rattle.ygg_eval.specs.ygg_meaning.Machine.{on, based}
use Rattle.ygg_eval.specs.ygg_meaning.Obligations.{Halt}
use Rattle.ygg_eval.specs.ygg_meaning.Refines.{Below}
use Rattle.ygg_eval.specs.ygg_meaning.Shapes.{values_fit}
use Rattle.ygg_eval_places.specs.ygg_sym_laws.Fronts.{answer_by_place, state_by_place, run_picks, run_stop, left_at, fall_picks}
use Rattle.ygg_eval.specs.Bodies.{IsBlock, arguments_in, variables_in}
use Rattle.ygg_eval.specs.Layers.{below_at, closed_at, variables_at}
use Rattle.ygg_eval.specs.declared.body.Body.{Body}
use Rattle.ygg_eval_places.specs.Bits.{bits_in}
use Rattle.ygg_eval_places.specs.Belows.{halt_of}
use Rattle.ygg_eval_places.specs.declared.below.Fallen.{Fallen}
use Rattle.ygg_eval_places.specs.declared.below.PlacedBits.{PlacedBits}
use Rattle.ygg_eval_places.specs.declared.fronts.Front.{Front}

-- a run of a block of a layer, from its memory, its arguments and the values below
module _ (file : File) (body : Body) (l : Layer) (b : Block) (args values low : List Value) (bits : PlacedBits) where
  abbrev pub below_of : Below
  below_of = below_at file body.layer

  abbrev pub layer_of : ClosedLayer
  layer_of = closed_at file body.layer l

  abbrev pub memory_of : Env
  memory_of = bind (variables_in l body.part) values

  abbrev pub given_of : Env
  given_of = bind (arguments_in l body.part body.number) args

  abbrev pub low_of : Env
  low_of = bind (variables_at file body.layer) low

  -- where power fails at a stop: what it leaves, and the picks from the front
  pub record FallsAs (stop : Halt) (f : Fallen) : Type 0 where
    pub stop_is : halt_of f.stop ≡ stop
    pub left : left_at below_of layer_of b memory_of given_of low_of (bits_in bits.run) (bits_in bits.last) stop
        ≡ Some (bind (variables_at file body.layer) f.low)
    pub fit : IsTrue (values_fit (variables_at file body.layer) f.low)
    pub picks : f.picks ≡ fall_picks below_of layer_of b memory_of given_of low_of (bits_in bits.run) (bits_in bits.last) stop

  -- power fails just where the first stop that is set is one of the run's
  abbrev pub Falls : Option Halt → Option Fallen → Type 0
  Falls None f = f ≡ None
  Falls (Some stop) None = ⊥
  Falls (Some stop) (Some f) = FallsAs stop f

  -- the answer, the values after it, the picks from the front, and where power fails
  pub record Fronted (front : Front) (values' : List Value) : Type 0 where
    pub answer : front.answer ≡ answer_by_place below_of layer_of b memory_of given_of low_of (bits_in bits.run)
    pub state : on (bind (variables_in l body.part) values') (based (bind (variables_at file body.layer) front.low))
        ≡ state_by_place below_of layer_of b memory_of given_of low_of (bits_in bits.run)
    pub fit : IsTrue (values_fit (variables_in l body.part) values')
    pub low_fit : IsTrue (values_fit (variables_at file body.layer) front.low)
    pub picks : front.picks ≡ run_picks below_of layer_of b memory_of given_of low_of (bits_in bits.run)
    pub falls : Falls (run_stop below_of layer_of b memory_of given_of low_of (bits_in bits.run) (bits_in bits.stops)) front.fallen

-- so it is of the block that is meant
abbrev pub BodyFronted : File → Body → List Value → List Value → List Value → PlacedBits → Front → List Value → Type 0
BodyFronted file body args values low bits front values' =
    (l : Layer) (b : Block) → IsBlock file body l b → Fronted file body l b args values low bits front values'
