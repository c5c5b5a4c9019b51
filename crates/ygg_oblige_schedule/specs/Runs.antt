-- The runs that an obligation speaks of, in code.
use Rattle.std.specs.Prelude.{◌≡◌, ℕ, Bool, IsTrue, List, Option, Some, None}
use Rattle.ygg_value.specs.declared.row.Value.{Value}
use Rattle.ygg_syntax.specs.declared.tree.Block as tree
use Rattle.ygg_syntax.specs.declared.tree.Layer.{Layer}
use Rattle.ygg_replay.specs.ygg_meaning.Environments.{Env, bind}
use Rattle.ygg_replay.specs.ygg_meaning.Layer.{ClosedLayer}
use Rattle.ygg_replay.specs.ygg_meaning.Machine.{Picks}
use Rattle.ygg_replay.specs.ygg_meaning.Obligations.{Halt}
use Rattle.ygg_replay.specs.ygg_meaning.Shapes.{values_fit}
use Rattle.ygg_eval_places.specs.ygg_sym_runs.Laws.{picked_by}
use Rattle.ygg_eval_places.specs.ygg_sym_laws.Fronts.{run_picks, run_stop, left_at, fall_picks}
use Rattle.ygg_oblige_schedule.specs.ygg_eval.Bodies.{IsBlock, arguments_in, variables_in}
use Rattle.ygg_oblige_schedule.specs.ygg_eval.Layers.{closed_at}
use Rattle.ygg_eval_places.specs.Belows.{halt_of}
use Rattle.ygg_eval_places.specs.declared.below.Fallen.{Fallen}
use Rattle.ygg_oblige_schedule.specs.Here.{below_of, body_of, file_of, inputs_of, layer_of, low_env, numbers_of, LowFits}
use Rattle.ygg_oblige_schedule.specs.declared.reader.FirstBlock.{FirstBlock}
use Rattle.ygg_oblige_schedule.specs.declared.reader.EnvironmentReader.{EnvironmentReader}
use Rattle.ygg_oblige_schedule.specs.declared.reader.Stand.{Stand}
use Rattle.ygg_oblige_given.specs.ygg_oblige_laws.Worth as worth
use Rattle.ygg_oblige_given.specs.ygg_oblige_laws.States.{given_stand}
use Rattle.ygg_replay.specs.ygg_meaning.Related.{shaped}

module _ (r : EnvironmentReader) (block : FirstBlock) (args memory low : List Value) where
  -- the layer that is meant
  abbrev pub layer_at : Layer → ClosedLayer
  layer_at l = closed_at (file_of r) r.site.place l

  -- the memory by its names
  abbrev pub memory_env : Layer → Env
  memory_env l = bind (variables_in l block.part) memory

  -- the arguments by their names
  abbrev pub args_env : Layer → Env
  args_env l = bind (arguments_in l block.part block.number) args

  -- the picks of a whole run of the block that is meant, whose inputs are numbered on from a number
  abbrev pub PicksAre : ℕ → Picks → Type 0
  PicksAre first picks = (l : Layer) (b : tree.Block) → IsBlock (file_of r) (body_of r block) l b →
      picks ≡ run_picks (below_of r) (layer_at l) b (memory_env l) (args_env l) (low_env r low) (picked_by (inputs_of r) first)

  -- where power cuts a run of a block at a stop: what it leaves, and the picks till then
  pub record FellAt (l : Layer) (b : tree.Block) (stop : Halt) (f : Fallen) : Type 0 where
    pub stop_is : halt_of f.stop ≡ stop
    pub left : left_at (below_of r) (layer_at l) b (memory_env l) (args_env l) (low_env r low) (picked_by (inputs_of r) (numbers_of r).run)
        (picked_by (inputs_of r) (numbers_of r).last) stop ≡ Some (low_env r f.low)
    pub fit : LowFits r f.low
    pub picks : f.picks
        ≡ fall_picks (below_of r) (layer_at l) b (memory_env l) (args_env l) (low_env r low) (picked_by (inputs_of r) (numbers_of r).run)
        (picked_by (inputs_of r) (numbers_of r).last) stop

  -- it cuts it just where the run comes to a stop that is set
  abbrev pub FellSo : Layer → tree.Block → Option Halt → Option Fallen → Type 0
  FellSo l b None f = f ≡ None
  FellSo l b (Some stop) None = ⊥
  FellSo l b (Some stop) (Some f) = FellAt l b stop f

  -- so it is of the block that is meant
  abbrev pub FallsHere : Option Fallen → Type 0
  FallsHere f = (l : Layer) (b : tree.Block) → IsBlock (file_of r) (body_of r block) l b →
      FellSo l b (run_stop (below_of r) (layer_at l) b (memory_env l) (args_env l) (low_env r low) (picked_by (inputs_of r) (numbers_of r).run)
      (picked_by (inputs_of r) (numbers_of r).stop)) f

-- whether states have the declared shapes
abbrev pub stand_fits : ClosedLayer → worth.Stand → Bool
stand_fits L s = shaped L s.vars s.memory s.low

-- the states that the obligation begins with
pub record StandIs (r : EnvironmentReader) (s : Stand) : Type 0 where
  pub state_fits : IsTrue (values_fit r.site.layer.now.state s.state)
  pub memory_fits : IsTrue (values_fit r.site.layer.now.memory s.memory)
  pub low_fits : LowFits r s.low
  pub state_is : bind r.site.layer.now.state s.state ≡ (given_stand (inputs_of r) r.site.states (layer_of r)).vars
  pub memory_is : bind r.site.layer.now.memory s.memory ≡ (given_stand (inputs_of r) r.site.states (layer_of r)).memory
  pub low_is : low_env r s.low ≡ (given_stand (inputs_of r) r.site.states (layer_of r)).low
