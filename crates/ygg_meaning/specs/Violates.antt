-- What an obligation says of a schedule: its hypotheses, the runs that it speaks of, what the specification may do, and its conclusion.
use Rattle.std.specs.Prelude.{◌≡◌, ℕ, Bool, true, false, ◌&&◌, IsTrue, List, [], length, Option, Some, None}
use Rattle.ygg_value.specs.Values.{same_value}
use Rattle.ygg_syntax.specs.declared.tree.Block.{Block}
use Rattle.ygg_meaning.specs.Environments.{Env, bind, same_env}
use Rattle.ygg_meaning.specs.Shapes.{values_fit, env_fits, zeros_of}
use Rattle.ygg_meaning.specs.Progress.{Answer}
use Rattle.ygg_meaning.specs.Machine.{Picks, State, based, on, memory_in, Machine}
use Rattle.ygg_meaning.specs.Layer.{ClosedLayer, Layered, BlockRuns, BlockFalls, StartsAndFormats}
use Rattle.ygg_meaning.specs.Spec.{Outcome, chosen, call_outcome, fall_outcome, crash_outcome, start_outcome}
use Rattle.ygg_meaning.specs.Related.{shaped, all_true, relates, settles, related, settled}
use Rattle.ygg_meaning.specs.Obligations.{
  Schedule,
  Obligation,
  Init,
  CallOf,
  CutOf,
  TickOf,
  CutTickOf,
  Idle,
  Again,
  IsRead,
  StopsAt,
  call_picks,
  crash_picks,
  fall_picks,
  NoPicksPass,
}

-- whether a step of the specification has ended, in variables that are related to this state of the layer
abbrev pub related_after : ClosedLayer → State Env → Option Outcome → Bool
related_after L to None = false
related_after L to (Some o) = related L o.vars (memory_in to) to.base

-- whether two answers are the same
abbrev pub same_answer : Answer → Answer → Bool
same_answer None None = true
same_answer (Some a) (Some b) = same_value a b
same_answer _ _ = false

-- whether a step of the specification has ended with this answer
abbrev pub answers_alike : Answer → Option Outcome → Bool
answers_alike y None = false
answers_alike y (Some o) = same_answer y o.answer

-- whether memory and lower state are the same
abbrev pub same_state : State Env → State Env → Bool
same_state s t = same_env (memory_in s) (memory_in t) && same_env s.base t.base

-- how the runs that an obligation speaks of have ended: with an answer, if they give one, in a state, and on the side the test in which the
-- specification has no say
pub record End : Type 0 where
  pub answer : Answer
  pub to : State Env
  pub side : Bool

module _ (L : ClosedLayer) where
  -- whether the values that the obligation speaks of have the declared names and shapes
  abbrev pub shapes_fit : Obligation → Schedule → Bool
  shapes_fit Init x = true
  shapes_fit (CallOf o) x = shaped L x.state x.memory x.low && values_fit o.arguments x.args
  shapes_fit (CutOf o) x = shaped L x.state x.memory x.low && values_fit o.arguments x.args
  shapes_fit (TickOf t) x = shaped L x.state x.memory x.low
  shapes_fit (CutTickOf t) x = shaped L x.state x.memory x.low
  shapes_fit Idle x = shaped L x.state x.memory x.low
  shapes_fit Again x = env_fits L.low x.low

  -- whether each hypothesis on the first states holds, in order
  abbrev pub hypotheses : Obligation → Schedule → List Bool
  hypotheses Init x = []
  hypotheses (CallOf o) x = relates L x.state x.memory x.low
  hypotheses (CutOf o) x = relates L x.state x.memory x.low
  hypotheses (TickOf t) x = relates L x.state x.memory x.low
  hypotheses (CutTickOf t) x = relates L x.state x.memory x.low
  hypotheses Idle x = relates L x.state x.memory x.low
  hypotheses Again x = settles L x.low

  -- how many picks the specification's step takes at most
  abbrev pub most : Obligation → ℕ
  most Init = 0
  most (CallOf o) = call_picks o
  most (CutOf o) = fall_picks L.layer o
  most (TickOf t) = 0
  most (CutTickOf t) = crash_picks L.layer
  most Idle = crash_picks L.layer
  most Again = 0

  -- how the specification's step ends with these picks: formatting, the operation, power failing in it, nothing, or power loss; `again` has none
  abbrev pub spec_after : Obligation → Schedule → Picks → Option Outcome
  spec_after Init x picks = start_outcome L
  spec_after (CallOf o) x picks = call_outcome L o x.state x.args (chosen picks)
  spec_after (CutOf o) x picks = fall_outcome L o x.state x.args picks
  spec_after (TickOf t) x picks = Some (record { vars = x.state; answer = None; left = [] })
  spec_after (CutTickOf t) x picks = crash_outcome L x.state (chosen picks)
  spec_after Idle x picks = crash_outcome L x.state (chosen picks)
  spec_after Again x picks = None

  -- whether the conclusion holds, where the runs have ended so and the specification's step so
  abbrev pub passes : Obligation → End → Option Outcome → Bool
  passes Init end out = related_after L end.to out
  passes (CallOf o) end out = answers_alike end.answer out && related_after L end.to out
  passes (CutOf o) end out = end.side && related_after L end.to out
  passes (TickOf t) end out = related_after L end.to out
  passes (CutTickOf t) end out = end.side && related_after L end.to out
  passes Idle end out = end.side && related_after L end.to out
  passes Again end out = end.side

module _ (L : ClosedLayer) (M : Machine Env Bool) where
  -- the state that a schedule begins with
  abbrev pub start_at : Schedule → State Env
  start_at x = on x.memory (based x.low)

  -- the state that a recovery from the schedule's base begins with
  abbrev pub woken_at : Schedule → State Env
  woken_at x = on (zeros_of L.layer.memory) (based x.low)

  -- the machine below starts, and the layer is formatted on it
  pub record Formatted (x : Schedule) (end : End) : Type 0 where
    pub taken : Picks
    pub run : StartsAndFormats L M end.to taken
    pub read : IsRead x.picks taken

  -- a whole run of a block from the schedule's first state
  pub record RanWhole (b : Block) (args : Env) (x : Schedule) (end : End) : Type 0 where
    pub taken : Picks
    pub run : BlockRuns L M b args (start_at x) taken end.answer end.to
    pub read : IsRead x.picks taken

  -- a run of a block that power cuts where the schedule says
  pub record CutShort (b : Block) (args : Env) (from : State Env) (x : Schedule) (fallen : Env) : Type 0 where
    pub taken : Picks
    pub run : BlockFalls L M b args from taken fallen
    pub stop : StopsAt x.stop run.run.within (length run.run.calls)
    pub read : IsRead x.picks taken

  -- power loss between operations
  pub record LostBetween (x : Schedule) (fallen : Env) : Type 0 where
    pub taken : Picks
    pub run : M.Loses (based x.low) taken fallen
    pub read : IsRead x.picks taken

  -- what power leaves that fails where the schedule says, if the obligation speaks of such a failure: the stop is reached where there is such a base
  abbrev pub FallsSo : Obligation → Schedule → Env → Type 0
  FallsSo Init x fallen = ⊥
  FallsSo (CallOf o) x fallen = ⊥
  FallsSo (CutOf o) x fallen = CutShort o.implementation (bind o.arguments x.args) (start_at x) x fallen
  FallsSo (TickOf t) x fallen = ⊥
  FallsSo (CutTickOf t) x fallen = CutShort t.body [] (start_at x) x fallen
  FallsSo Idle x fallen = LostBetween x fallen
  FallsSo Again x fallen = CutShort L.layer.recover [] (woken_at x) x fallen

  -- one whole recovery with the schedule's picks
  pub record Recovers (x : Schedule) (fallen : Env) (to : State Env) : Type 0 where
    pub taken : Picks
    pub run : (Layered L M).Wakes fallen taken to
    pub read : IsRead x.wake taken

  -- power fails, and a recovery follows; on the side stands whether the base that power left is settled
  pub record FellAndRecovered (o : Obligation) (x : Schedule) (end : End) : Type 0 where
    pub fallen : Env
    pub falls : FallsSo o x fallen
    pub recovers : Recovers x fallen end.to
    pub side : end.side ≡ settled L fallen

  -- power fails in a recovery, and another follows; on the side stands whether the base between is settled and the recovery ends where one whole
  -- recovery from the first base ends
  pub record RecoveredTwice (x : Schedule) (end : End) : Type 0 where
    pub fallen : Env
    pub falls : FallsSo Again x fallen
    pub recovers : Recovers x fallen end.to
    pub taken : Picks
    pub answer : Answer
    pub to : State Env
    pub run : BlockRuns L M L.layer.recover [] (woken_at x) taken answer to
    pub read : IsRead x.other taken
    pub side : end.side ≡ (settled L fallen && same_state end.to to)

  -- the runs that the obligation speaks of, with the schedule's picks, have ended so
  abbrev pub Reached : Obligation → Schedule → End → Type 0
  Reached Init x end = Formatted x end
  Reached (CallOf o) x end = RanWhole o.implementation (bind o.arguments x.args) x end
  Reached (CutOf o) x end = FellAndRecovered (CutOf o) x end
  Reached (TickOf t) x end = RanWhole t.body [] x end
  Reached (CutTickOf t) x end = FellAndRecovered (CutTickOf t) x end
  Reached Idle x end = FellAndRecovered Idle x end
  Reached Again x end = RecoveredTwice x end

  -- the values have their shapes, all hypotheses on the first states hold, the stop is reached where there is one, and the runs have ended so
  pub record Meets (o : Obligation) (x : Schedule) (end : End) : Type 0 where
    pub shapes : IsTrue (shapes_fit L o x)
    pub hypotheses : IsTrue (all_true (hypotheses L o x))
    pub reached : Reached o x end

  -- the schedule meets the obligation's hypotheses, and its conclusion fails whatever the specification picks
  pub record Violates (o : Obligation) (x : Schedule) : Type 0 where
    pub end : End
    pub meets : Meets o x end
    pub fails : NoPicksPass (most L o) (λ picks. passes L o end (spec_after L o x picks))

  -- no schedule violates the obligation
  abbrev pub Holds : Obligation → Type 0
  Holds o = (x : Schedule) → ¬ (Violates o x)
