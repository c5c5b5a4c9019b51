-- The schedules that an environment names for obligations.
use Rattle.std.specs.Prelude.{ℕ, ◌+◌, List, [], ◌∷◌, ◌++◌, map, Option, Some, None}
use Rattle.ygg_value.specs.declared.row.Value.{Value}
use Rattle.ygg_syntax.specs.declared.tree.Block.{Block}
use Rattle.ygg_syntax.specs.declared.tree.DiskText.{DiskText}
use Rattle.ygg_oblige_laws.specs.ygg_meaning.Environments.{Name, Env, bind}
use Rattle.ygg_oblige_laws.specs.ygg_meaning.Layer.{ClosedLayer}
use Rattle.ygg_oblige_laws.specs.ygg_meaning.Machine.{Picks, based}
use Rattle.ygg_oblige_laws.specs.ygg_meaning.Obligations.{
  Halt,
  Schedule,
  Obligation,
  Init,
  CallOf,
  CutOf,
  TickOf,
  CutTickOf,
  Idle,
  Again,
  obligations_of,
}
use Rattle.ygg_oblige_laws.specs.ygg_meaning.Refines.{Below}
use Rattle.ygg_oblige_laws.specs.ygg_meaning.Shapes.{zeros_of}
use Rattle.ygg_oblige_laws.specs.ygg_meaning.Stack.{Layers, below_of}
use Rattle.ygg_oblige_laws.specs.ygg_rules.declared.rule.RuleKind.{RuleKind}
use Rattle.ygg_oblige_laws.specs.ygg_bank.Values.{Inputs}
use Rattle.ygg_oblige_laws.specs.ygg_sym_runs.Laws.{picked_by}
use Rattle.ygg_oblige_laws.specs.ygg_sym_runs.Exprs.{SymFunctions}
use Rattle.ygg_oblige_laws.specs.Numbers.{Numbers, numbers_of, arguments_of}
use Rattle.ygg_oblige_laws.specs.TermStates.{state_words}
use Rattle.ygg_oblige_laws.specs.Terms.{after_layers}
use Rattle.ygg_oblige_laws.specs.Inputs.{given_env}
use Rattle.ygg_oblige_laws.specs.States.{given_stand}
use Rattle.ygg_oblige_laws.specs.Worth.{Stand}
use Rattle.ygg_sym_laws.specs.Fronts.{lose_on, loss_picks, low_at_start, run_picks, run_stop, left_at, fall_picks}

-- the values of names, in order
abbrev pub values_of : Env → List Value
values_of = map (λ (b : Name × Value). b.1)

module _ (G : Below) (L : ClosedLayer) (inputs : Inputs) where
  -- the picks of a recovery from what power has left, whose inputs are numbered on from a number
  abbrev pub woken_picks : ℕ → Env → Picks
  woken_picks first fallen = run_picks G L L.layer.recover (zeros_of L.layer.memory) [] fallen (picked_by inputs first)

  -- where power has left nothing there are none
  abbrev pub wake_picks : ℕ → Option Env → Picks
  wake_picks first None = []
  wake_picks first (Some fallen) = woken_picks first fallen

  -- an obligation whose inputs have these numbers
  module _ (n : Numbers) where
    -- a run of a block over a memory, arguments and a state below
    module _ (b : Block) (memory given low : Env) where
      -- the picks of a whole run
      abbrev pub whole_picks : Picks
      whole_picks = run_picks G L b memory given low (picked_by inputs n.run)

      -- where power cuts it: none where it comes to no stop that is set
      abbrev pub stop_of : Option Halt
      stop_of = run_stop G L b memory given low (picked_by inputs n.run) (picked_by inputs n.stop)

      -- what power leaves of it
      abbrev pub left_of : Option Halt → Option Env
      left_of None = None
      left_of (Some stop) = left_at G L b memory given low (picked_by inputs n.run) (picked_by inputs n.last) stop

      -- the picks up to the stop, and those of the failure there
      abbrev pub picks_of : Option Halt → Picks
      picks_of None = []
      picks_of (Some stop) = fall_picks G L b memory given low (picked_by inputs n.run) (picked_by inputs n.last) stop

    -- a whole run of a block from these states, with these arguments
    abbrev pub whole_from : Block → Stand → Env → List Value → Schedule
    whole_from b s given args = record {
      state = s.vars;
      memory = s.memory;
      low = s.low;
      args = args;
      stop = None;
      picks = whole_picks b s.memory given s.low;
      wake = [];
      other = [];
    }

    -- a run that power cuts there, and the recovery after it
    abbrev pub cut_from : Block → Stand → Env → List Value → Option Halt → Schedule
    cut_from b s given args stop = record {
      state = s.vars;
      memory = s.memory;
      low = s.low;
      args = args;
      stop = stop;
      picks = picks_of b s.memory given s.low stop;
      wake = wake_picks n.wake (left_of b s.memory given s.low stop);
      other = [];
    }

    -- a recovery that power cuts there, the recovery after it, and one whole recovery from the first base
    abbrev pub again_from : Env → Option Halt → Schedule
    again_from low stop = let zeros = zeros_of L.layer.memory in record {
      state = [];
      memory = [];
      low = low;
      args = [];
      stop = stop;
      picks = picks_of L.layer.recover zeros [] low stop;
      wake = wake_picks n.wake (left_of L.layer.recover zeros [] low stop);
      other = woken_picks n.other low;
    }

    -- the schedule from these states, with these arguments; what the obligation does not speak of is empty
    abbrev pub schedule_from : Obligation → Stand → List Value → Schedule
    schedule_from Init s args = record {
      state = [];
      memory = [];
      low = [];
      args = [];
      stop = None;
      picks = whole_picks L.layer.format (zeros_of L.layer.memory) [] (low_at_start G);
      wake = [];
      other = [];
    }
    schedule_from (CallOf o) s args = whole_from o.implementation s (bind o.arguments args) args
    schedule_from (CutOf o) s args =
        let given = bind o.arguments args in cut_from o.implementation s given args (stop_of o.implementation s.memory given s.low)
    schedule_from (TickOf t) s args = whole_from t.body s [] []
    schedule_from (CutTickOf t) s args = cut_from t.body s [] [] (stop_of t.body s.memory [] s.low)
    schedule_from Idle s args = record {
      state = s.vars;
      memory = s.memory;
      low = s.low;
      args = [];
      stop = None;
      picks = loss_picks G (picked_by inputs n.last) s.low;
      wake = woken_picks n.wake (lose_on G (picked_by inputs n.last) (based s.low));
      other = [];
    }
    schedule_from Again s args = again_from s.low (stop_of L.layer.recover (zeros_of L.layer.memory) [] s.low)

  -- The schedule of an obligation: the inputs of the layer's states are numbered on from one number, and the obligation's own from another. Its values are
  -- those of the inputs, and its picks are those that the runs take which the inputs name by place.
  abbrev pub schedule_of : ℕ → Obligation → ℕ → Schedule
  schedule_of number o start =
      schedule_from (numbers_of G L o start) o (given_stand inputs number L) (values_of (given_env inputs start (arguments_of o)))

  -- those of obligations in order
  abbrev pub schedules_of : ℕ → List Obligation → ℕ → List Schedule
  schedules_of number [] start = []
  schedules_of number (o ∷ os) start = schedule_of number o start ∷ schedules_of number os (numbers_of G L o start).next

  -- those of a layer's obligations
  abbrev pub layer_schedules : ℕ → List Schedule
  layer_schedules number = schedules_of number (obligations_of L.layer) (number + state_words L)

module _ (kinds : List RuleKind) (terms : SymFunctions) (disk : DiskText) (inputs : Inputs) where
  -- those of layers' obligations, those of the lowest layer first
  abbrev pub all_schedules : Layers → List Schedule
  all_schedules [] = []
  all_schedules (L ∷ lower) =
      all_schedules lower ++ layer_schedules (below_of disk lower) L inputs (after_layers kinds terms disk lower)
