-- Schedules in code, as those that an environment names.
use Rattle.std.specs.Prelude.{◌≡◌, ◌<◌, ◌^◌, ℕ, IsTrue, List, length, slice_get, Option, IfSome, Some}
use Rattle.std.specs.Option.{option_map}
use Rattle.ygg_value.specs.declared.row.Value.{Value}
use Rattle.ygg_syntax.specs.declared.tree.Block as tree
use Rattle.ygg_syntax.specs.declared.tree.Operation.{Operation}
use Rattle.ygg_syntax.specs.declared.tree.Tick.{Tick}
use Rattle.ygg_replay.specs.ygg_meaning.Claims.{Claim}
use Rattle.ygg_replay.specs.ygg_meaning.Environments.{Env, bind}
use Rattle.ygg_replay.specs.ygg_meaning.Machine.{Picks}
use Rattle.ygg_replay.specs.ygg_meaning.Obligations.{Obligation, Init, CallOf, CutOf, TickOf, CutTickOf, Idle, Again, name_of}
use Rattle.ygg_replay.specs.ygg_meaning.Obligations as meaning
use Rattle.ygg_replay.specs.ygg_meaning.Violates.{shapes_fit}
use Rattle.ygg_syntax.specs.declared.grammar.BlockKind.TheVariants as kind
use Rattle.ygg_replay.specs.ygg_meaning.Shapes.{values_fit}
use Rattle.ygg_oblige_schedule.specs.ygg_eval.Bodies.{IsBlock, arguments_in, block_in, kind_of}
use Rattle.ygg_oblige_given.specs.ygg_oblige_laws.LayerTerms.{ShapesKept}
use Rattle.ygg_oblige_given.specs.ygg_oblige_laws.Numbers.{arguments_of}
use Rattle.ygg_oblige_given.specs.ygg_oblige_laws.Numbers as terms
use Rattle.ygg_oblige_given.specs.ygg_oblige_laws.States.{given_stand}
use Rattle.ygg_oblige_given.specs.ygg_oblige_laws.Worth as worth
use Rattle.ygg_oblige_given.specs.ygg_oblige_laws.Schedules.{left_of, picks_of, schedule_of, stop_of, wake_picks}
use Rattle.ygg_replay.specs.ygg_sched.Fitting.{halt_meant}
use Rattle.ygg_replay.specs.ygg_sched.declared.schedule.Halt.{Halt}
use Rattle.ygg_replay.specs.ygg_sched.declared.schedule.Schedule.{Schedule}
use Rattle.ygg_oblige_schedule.specs.Here.{below_of, body_of, file_of, inputs_of, layer_of, numbers_of, obligation_of}
use Rattle.ygg_oblige_schedule.specs.declared.reader.FirstBlock.{FirstBlock}
use Rattle.ygg_oblige_schedule.specs.declared.reader.EnvironmentReader.{EnvironmentReader}
use Rattle.ygg_oblige_schedule.specs.declared.reader.Stand.{Stand}
use Rattle.ygg_oblige_schedule.specs.declared.named.CutParts.{CutParts}

-- The schedule that is meant: variables by their names, arguments in their order.
abbrev pub meant : Claim → Schedule → meaning.Schedule
meant c x = record {
  state = bind c.layer.layer.state x.state;
  memory = bind c.layer.layer.memory x.memory;
  low = bind c.layer.low x.low;
  args = x.args;
  stop = option_map halt_meant x.stop;
  picks = x.picks;
  wake = x.wake;
  other = x.other;
}

-- the operation or background step of an obligation stands at this place of these lists
abbrev pub StandsIn : List Operation → List Tick → Obligation → ℕ → Type 0
StandsIn operations ticks Init number = Unit {0}
StandsIn operations ticks (CallOf o) number = slice_get operations number ≡ Some o
StandsIn operations ticks (CutOf o) number = slice_get operations number ≡ Some o
StandsIn operations ticks (TickOf t) number = slice_get ticks number ≡ Some t
StandsIn operations ticks (CutTickOf t) number = slice_get ticks number ≡ Some t
StandsIn operations ticks Idle number = Unit {0}
StandsIn operations ticks Again number = Unit {0}

-- a schedule has as many values of states as are meant
pub record AsMany (x : Schedule) (want : meaning.Schedule) : Type 0 where
  pub state : length x.state ≡ length want.state
  pub memory : length x.memory ≡ length want.memory
  pub low : length x.low ≡ length want.low

-- the number in a stop can be printed and read again
abbrev pub IsBounded : Option Halt → Type 0
IsBounded stop = IfSome stop (λ h. h.event < 2 ^ 64)

module _ (r : EnvironmentReader) where
  -- the schedule that a schedule means
  abbrev pub meant_here : Schedule → meaning.Schedule
  meant_here x = meant (record { layer = layer_of r; below = below_of r; obligation = obligation_of r }) x

  -- the states that the inputs give
  abbrev pub given_here : worth.Stand
  given_here = given_stand (inputs_of r) r.site.states (layer_of r)

  -- the obligation's schedule of these parts
  abbrev pub made_of : Stand → List Value → CutParts → Picks → Schedule
  made_of s args p other = record {
    name = name_of r.site.layer.now.name.text (obligation_of r);
    state = s.state;
    memory = s.memory;
    low = s.low;
    args = args;
    stop = p.stop;
    picks = p.picks;
    wake = p.wake;
    other = other;
  }

  -- the schedule that the inputs name
  abbrev pub named_here : meaning.Schedule
  named_here = schedule_of (below_of r) (layer_of r) (inputs_of r) r.site.states (obligation_of r) (numbers_of r).args

  -- the schedule has the obligation's name and means this one, with no more values, and the number in its stop can be printed
  pub record IsRead (want : meaning.Schedule) (x : Schedule) : Type 0 where
    pub name : x.name ≡ name_of r.site.layer.now.name.text (obligation_of r)
    pub means : meant_here x ≡ want
    pub many : AsMany x want
    pub bounded : IsBounded x.stop

  -- the values that the inputs give have the declared shapes
  abbrev pub NamedShaped : Type 0
  NamedShaped = IsTrue (shapes_fit (layer_of r) (obligation_of r) named_here)

  -- what the block that is meant comes to
  abbrev pub OfBlock : FirstBlock → (tree.Block → Type 0) → Type 0
  OfBlock block P = (b : tree.Block) → IsBlock (file_of r) (body_of r block) r.site.layer.now b → P b

  -- the stop and the picks of a run of a block that power cuts, and those of the recovery after it
  pub record PartsAre (b : tree.Block) (memory given low : Env) (p : CutParts) : Type 0 where
    pub bounded : IsBounded p.stop
    pub stop : option_map halt_meant p.stop ≡ stop_of (below_of r) (layer_of r) (inputs_of r) (numbers_of r) b memory given low
    pub picks : p.picks
        ≡ picks_of (below_of r) (layer_of r) (inputs_of r) (numbers_of r) b memory given low
        (stop_of (below_of r) (layer_of r) (inputs_of r) (numbers_of r) b memory given low)
    pub wake : p.wake
        ≡ wake_picks (below_of r) (layer_of r) (inputs_of r) (numbers_of r).wake
        (left_of (below_of r) (layer_of r) (inputs_of r) (numbers_of r) b memory given low
        (stop_of (below_of r) (layer_of r) (inputs_of r) (numbers_of r) b memory given low))

  -- a block of the layer's implementation that there is, and arguments that fit it
  pub record HasBlock (block : FirstBlock) (args : List Value) : Type 0 where
    pub kind : kind_of block.part ≡ kind.Impl
    pub body : tree.Block
    pub there : block_in r.site.layer.now block.part block.number ≡ Some body
    pub fit : IsTrue (values_fit (arguments_in r.site.layer.now block.part block.number) args)

  -- the operation or background step of the obligation stands at its number in the layer's list, and the shapes of its arguments keep the limits
  pub record StandsHere : Type 0 where
    pub stands : StandsIn r.site.layer.now.operations r.site.layer.now.ticks (obligation_of r) r.site.number
    pub kept : ShapesKept (arguments_of (obligation_of r))
    pub numbers : numbers_of r ≡ terms.numbers_of (below_of r) (layer_of r) (obligation_of r) (numbers_of r).args
