-- How a script is run on layers: they are woken, and then its commands are run.
use Rattle.std.specs.Prelude.{◌≡◌, ◌⊎◌, ℕ, List, [], ◌∷◌, ◌++◌, Option, Result, Ok, Err}
use Rattle.ygg_syntax.specs.declared.tree.File.{File}
use Rattle.ygg_run.specs.ygg_meaning.Machine.{State, Machine}
use Rattle.ygg_run.specs.ygg_meaning.History.{Entry, Steps}
use Rattle.ygg_run.specs.ygg_eval.Lower.{Cause, GivenUp}
use Rattle.ygg_run.specs.ygg_report.Putting.{Adds, IsFront}
use Rattle.ygg_run.specs.ygg_script.declared.command.Command.{Command}
use Rattle.ygg_run.specs.ygg_script.declared.command.Command.TheVariants.{Call, Tick, Lost, Fail, Keep}
use Rattle.ygg_run.specs.ygg_run_play.Named.{operation_name, tick_name}
use Rattle.ygg_run_commands.specs.Ran.{AllRan, run_lines, run_text}
use Rattle.ygg_run_commands.specs.declared.halting.RunHalted.{RunHalted}
use Rattle.ygg_run_commands.specs.declared.halting.RunHalted.TheVariants.{DeviceFailed, SinkFailed, Memory}

-- what may be printed while these commands are left: the last line only where none is
abbrev pub text_before : (script rest : List Command) → List Entry → List ℕ
text_before script [] es = run_text script es
text_before script (c ∷ cs) es = run_lines es

-- a machine of a file, which by the cause says what a step leaves that is cut
module _ {B X : Type 0} (M : Cause → Machine B X) (f : File) where
  -- from this base it was woken, and the commands were run, all of it whole
  pub record Runs (script : List Command) (from : B) (es : List Entry) (to : State B) : Type 0 where
    pub woken : State B
    pub notes : List X
    pub wakes : (cause : Cause) → (M cause).Wakes from notes woken
    pub ran : AllRan f script es
    pub steps : (cause : Cause) → Steps (M cause) woken es to

  -- this is left of a command that was given up
  abbrev pub LeftOf : Command → State B → B → Type 0
  LeftOf (Call op args) s left = (notes : List X) × (M GivenUp).Falls s (operation_name f op) args notes left
  LeftOf (Tick layer number) s left = (notes : List X) × (M GivenUp).TickFalls s (tick_name f layer number) notes left
  LeftOf Lost s left = ⊥
  LeftOf (Fail within call) s left = ⊥
  LeftOf (Keep picks) s left = ⊥

  -- the waking was given up
  pub record StopsWaking (from left : B) : Type 0 where
    pub notes : List X
    pub falls : (M GivenUp).WakeFalls from notes left

  -- the waking and some commands were whole, and these are left, of which the next wasn't begun or was given up
  pub record StopsBefore (script rest : List Command) (from : B) (es : List Entry) (left : B) : Type 0 where
    pub done : List Command
    pub is : script ≡ done ++ rest
    pub at : State B
    pub runs : Runs done from es at
    pub leaves : (left ≡ at.base) ⊎ ((next : Command) × (later : List Command) × (rest ≡ next ∷ later) × LeftOf next at left)

  -- How a run ended, what it left and what the sink has taken: all of its text where it was whole; the lines of what was whole where what lies below the
  -- layers failed; and a front of such lines where the sink failed or no memory was left.
  abbrev pub IsRun : List Command → (from to : B) → (before now : Option (List ℕ)) → (DeviceRose SinkRose : Type 0) → Result (Unit {0}) RunHalted → Type 0
  IsRun script from to before now DeviceRose SinkRose (Ok done) =
      (es : List Entry) × (at : State B) × Runs script from es at × (to ≡ at.base) × Adds before (run_text script es) now
  IsRun script from to before now DeviceRose SinkRose (Err DeviceFailed) =
      DeviceRose
      × ((StopsWaking from to × (now ≡ before))
      ⊎ ((rest : List Command) × (es : List Entry) × StopsBefore script rest from es to × Adds before (run_lines es) now))
  IsRun script from to before now DeviceRose SinkRose (Err SinkFailed) =
      SinkRose
      × (rest : List Command) × (es : List Entry) × StopsBefore script rest from es to
      × (front : List ℕ) × IsFront front (text_before script rest es) × Adds before front now
  IsRun script from to before now DeviceRose SinkRose (Err Memory) =
      (StopsWaking from to × (now ≡ before))
      ⊎ ((rest : List Command) × (es : List Entry) × StopsBefore script rest from es to
      × (front : List ℕ) × IsFront front (text_before script rest es) × Adds before front now)
