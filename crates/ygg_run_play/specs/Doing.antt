-- How a script's line ends: whole, cut by the stop that follows it, or with a stop that isn't reached.
use Rattle.std.specs.Prelude.{◌≡◌, ℕ, Bool, true, false, if◌then◌else◌, List, [], ◌++◌, drop, Option, Some, None, is_some, Result, Ok, Err, MatchBool, codes}
use Rattle.ygg_syntax.specs.declared.tree.File.{File}
use Rattle.ygg_run_play.specs.ygg_disk.declared.power.Fuse.{Fuse}
use Rattle.ygg_run_play.specs.ygg_disk.declared.power.Picks as disk
use Rattle.ygg_run_play.specs.ygg_disk.declared.power.Power.{Power}
use Rattle.ygg_run_play.specs.ygg_meaning.Environments.{Env}
use Rattle.ygg_run_play.specs.ygg_meaning.Progress.{Answer}
use Rattle.ygg_run_play.specs.ygg_meaning.Machine.{Picks, State, Machine}
use Rattle.ygg_run_play.specs.ygg_meaning.Noted.{Note, picks_in}
use Rattle.ygg_run_play.specs.ygg_meaning.Trace.{Standing, Up, Down, Moment, Leads}
use Rattle.ygg_run_play.specs.ygg_meaning_laws.Acts.{Taken}
use Rattle.ygg_run_play.specs.ygg_report.Putting.{Adds, IsFront}
use Rattle.ygg_run_play.specs.ygg_script.declared.command.Command.{Command}
use Rattle.ygg_run_play.specs.ygg_script.declared.command.Command.TheVariants.{Call, Tick, Lost, Fail, Keep}
use Rattle.ygg_run_play.specs.Named.{EndsAt, Misses, Happens, Leading, IsMissed}
use Rattle.ygg_run_play.specs.Lines.{answer_text, calls_lines, moments_lines}
use Rattle.ygg_run_play.specs.Played.{unreached_at}
use Rattle.ygg_run_play.specs.Scene.{Deed, Gives, After, FallsAfterAll}
use Rattle.ygg_run_play.specs.declared.scene.CommandOutcome.{CommandOutcome}
use Rattle.ygg_run_play.specs.declared.scene.CommandOutcome.TheVariants as outcome
use Rattle.ygg_run_play.specs.declared.halting.PlayHalted.{PlayHalted}
use Rattle.ygg_run_play.specs.declared.halting.PlayHalted.TheVariants as halted

-- the picks that are left
abbrev pub left_of : disk.Picks → Picks
left_of p = drop p.next p.bits

-- Power before what a line does: no disk call has been counted or shown, and each pick past those that are given is 1.
pub record IsReady (p : Power) : Type 0 where
  pub passed : p.passed ≡ 0
  pub events : p.events ≡ Some []
  pub past : p.picks.past ≡ true

-- running, or fallen
abbrev pub standing : (down : Bool) → State Env → Standing Env
standing down s = if down then Down s.base else Up s

-- what holds of a scene that runs, or of one where power has failed
abbrev pub Holds : (down : Bool) → (Runs Stands : Type 0) → Type 0
Holds true Runs Stands = Stands
Holds false Runs Stands = Runs

-- whether a line stands where power has failed
abbrev pub is_fail : Command → Bool
is_fail (Call op args) = false
is_fail (Tick layer number) = false
is_fail Lost = false
is_fail (Fail within call) = true
is_fail (Keep picks) = false

-- where power that fails after the last disk call of something cuts it there, so it does in a deed
abbrev pub CutsAfterAll : Machine Env Note → Deed → Type 0
CutsAfterAll M deed =
    FallsAfterAll M → (from to : State Env) (answer : Answer) (notes : List Note) (fallen : Env) → Leads M (deed.whole answer notes) (deed.from from) (Up to) →
    M.Loses to [] fallen → Leads M (deed.cut notes) (deed.from from) (Down fallen)

module _ (M : Machine Env Note) (deed : Deed) (stop : Option Fuse) (from : State Env) (picks : Picks) where
  -- a deed was whole where no stop follows it, and else power failed where the stop says
  abbrev pub StopsSo : CommandOutcome → List Note → State Env → Type 0
  StopsSo (outcome.Whole answer) notes to = (stop ≡ None) × Gives deed answer × Leads M (deed.whole answer notes) (deed.from from) (Up to)
  StopsSo outcome.Down notes to = (point : Fuse) × (stop ≡ Some point) × EndsAt point notes × Leads M (deed.cut notes) (deed.from from) (Down to.base)

  -- so it ended, with these disk calls, and left these picks
  pub record Stopped (ended : CommandOutcome) (notes : List Note) (to : State Env) (left : Picks) : Type 0 where
    pub so : StopsSo ended notes to
    pub takes : Taken true (picks_in notes) picks left

  -- it was whole, and has not the point of the stop that follows it
  pub record Missed : Type 0 where
    pub point : Fuse
    pub is : stop ≡ Some point
    pub notes : List Note
    pub answer : Answer
    pub to : State Env
    pub left : Picks
    pub gives : Gives deed answer
    pub leads : Leads M (deed.whole answer notes) (deed.from from) (Up to)
    pub takes : Taken true (picks_in notes) picks left
    pub misses : Misses point notes

  -- the deed ended so, and the lines of its disk calls were added
  pub record Counted (after : Power) (to : State Env) (Runs Stands : Type 0) (lines lines' : List ℕ) (ended : CommandOutcome) : Type 0 where
    pub notes : List Note
    pub stopped : Stopped ended notes to (left_of after.picks)
    pub past : after.picks.past ≡ true
    pub stands : After ended Runs Stands
    pub printed : lines' ≡ lines ++ calls_lines notes

-- What becomes of a machine that ended so after that many disk calls: where a stop is set, power has failed, or it fails now, exactly where no call is to be
-- begun and so many are whole. Else the stop isn't reached.
abbrev pub IsStopped : Option Fuse → (calls : ℕ) → CommandOutcome → Option CommandOutcome → (Same Gone : Type 0) → Type 0
IsStopped None calls ended (Some now) Same Gone = (now ≡ ended) × Same
IsStopped (Some stop) calls outcome.Down (Some outcome.Down) Same Gone = Same
IsStopped (Some stop) calls (outcome.Whole answer) (Some outcome.Down) Same Gone = (stop.within ≡ false) × (stop.call ≡ calls) × Gone
IsStopped (Some stop) calls (outcome.Whole answer) None Same Gone = MatchBool stop.within (Unit {0}) (stop.call ≡ calls → ⊥)
IsStopped _ calls ended now Same Gone = ⊥

-- what ends the lines of a command, and of a waking
abbrev pub command_end : CommandOutcome → List ℕ
command_end (outcome.Whole answer) = answer_text answer
command_end outcome.Down = codes "down"

abbrev pub waking_end : CommandOutcome → List ℕ
waking_end (outcome.Whole answer) = codes "up"
waking_end outcome.Down = codes "down"

-- why it ended so that nothing is printed of it
abbrev pub IsHalted : (Misses : Type 0) → (line : ℕ) → PlayHalted → Type 0
IsHalted Misses line (halted.Unreached r) = (r ≡ unreached_at line) × Misses
IsHalted Misses line halted.SinkFailed = ⊥
IsHalted Misses line halted.Memory = Unit {0}

-- What a line of a file's script did, with the stop that follows it, and the lines that were added for it: power has failed exactly where a stop follows.
pub record LineDone (M : Machine Env Note) (f : File) (c : Command) (before after : Power) (from : Standing Env) (to : State Env) (Runs Stands : Type 0)
    (lines lines' : List ℕ) : Type 0 where
  pub moments : List (Moment Note)
  pub happens : Happens f c before.fuse moments
  pub leading : Leading M f c (left_of before.picks) from moments (standing (is_some before.fuse) to) (left_of after.picks)
  pub past : after.picks.past ≡ true
  pub holds : Holds (is_some before.fuse) Runs Stands
  pub printed : lines' ≡ lines ++ moments_lines moments

-- the same, or the stop that follows, on the line of this number, isn't reached
abbrev pub LineEnds : Machine Env Note → File → Command → (line : ℕ) → (before after : Power) → (from : Standing Env) → (to : State Env) →
    (Runs Stands : Type 0) → (lines lines' : List ℕ) → Result (Unit {0}) PlayHalted → Type 0
LineEnds M f c line before after from to Runs Stands lines lines' (Ok done) = LineDone M f c before after from to Runs Stands lines lines'
LineEnds M f c line before after from to Runs Stands lines lines' (Err h) = IsHalted (IsMissed M f c before.fuse (left_of before.picks) from) line h

-- What a line did whose lines were put at once: all of them, or a front of them where the sink failed.
pub record LinePut (M : Machine Env Note) (f : File) (c : Command) (stop : Option Fuse) (picks : Picks) (from to : Standing Env) (left : Picks)
    (Put : List ℕ → Type 0) : Type 0 where
  pub moments : List (Moment Note)
  pub happens : Happens f c stop moments
  pub leading : Leading M f c picks from moments to left
  pub put : Put (moments_lines moments)

-- a front of these lines was taken
abbrev pub IsCutPut : (before now : Option (List ℕ)) → List ℕ → Type 0
IsCutPut before now lines = (front : List ℕ) × IsFront front lines × Adds before front now

-- lines were put; or a front of them where the sink failed; or none, since no memory was left
abbrev pub ArePut : List ℕ → (before now : Option (List ℕ)) → (SinkRose : Type 0) → Result (Unit {0}) PlayHalted → Type 0
ArePut lines before now SinkRose (Ok done) = Adds before lines now
ArePut lines before now SinkRose (Err (halted.Unreached r)) = ⊥
ArePut lines before now SinkRose (Err halted.SinkFailed) = SinkRose × IsCutPut before now lines
ArePut lines before now SinkRose (Err halted.Memory) = now ≡ before

-- How a step of a play ends: the line is done and its lines are put; or the stop that follows, on the line of this number, isn't reached;
-- or the sink failed, or
-- no memory was left before anything was put.
abbrev pub StepEnds : Machine Env Note → File → Command → (stop : Option Fuse) → (line : ℕ) → (before after : disk.Picks) → (from : Standing Env) →
    (to : State Env) → (taken taken' : Option (List ℕ)) → (SinkRose : Type 0) → Result (Unit {0}) PlayHalted → Type 0
StepEnds M f c stop line before after from to taken taken' SinkRose (Ok done) =
    LinePut M f c stop (left_of before) from (standing (is_some stop) to) (left_of after) (λ lines. Adds taken lines taken')
StepEnds M f c stop line before after from to taken taken' SinkRose (Err (halted.Unreached r)) =
    (r ≡ unreached_at line) × IsMissed M f c stop (left_of before) from
StepEnds M f c stop line before after from to taken taken' SinkRose (Err halted.SinkFailed) =
    SinkRose × LinePut M f c stop (left_of before) from (standing (is_some stop) to) (left_of after) (IsCutPut taken taken')
StepEnds M f c stop line before after from to taken taken' SinkRose (Err halted.Memory) = taken' ≡ taken
