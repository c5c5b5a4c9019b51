-- What the layers of a file do on a ground: they wake, or do what one command says, and its answer is put.
use Rattle.std.specs.Prelude.{◌≡◌, ◌≤◌, ◌⊎◌, ℕ, List, length, Option, Result, Ok, Err}
use Rattle.ygg_base.specs.Outside.{Rose}
use Rattle.ygg_syntax.specs.declared.tree.File.{File}
use Rattle.ygg_run.specs.ygg_disk.Ground.{Meaning}
use Rattle.ygg_run.specs.ygg_meaning.Progress.{Answer}
use Rattle.ygg_run.specs.ygg_meaning.History.{Entry, Step}
use Rattle.ygg_run.specs.ygg_meaning.Noted.{Note}
use Rattle.ygg_run.specs.ygg_eval.Lower.{Cause, Ending, Whole, Down, Failed, Starved}
use Rattle.ygg_run.specs.ygg_machine.Bottoms.{View, ViewStands, ViewRuns, state_seen}
use Rattle.ygg_run.specs.ygg_report.Lines.{ended}
use Rattle.ygg_run.specs.ygg_report.Putting.{Adds, IsFront}
use Rattle.ygg_run.specs.ygg_script.declared.command.Command.{Command}
use Rattle.ygg_run.specs.ygg_run_play.Lines.{answer_text}
use Rattle.ygg_run_commands.specs.Ran.{Ran, answer_in}
use Rattle.ygg_run_commands.specs.OnGround.{layers_on}
use Rattle.ygg_run_commands.specs.Running.{LeftOf, StopsWaking}
use Rattle.ygg_run_commands.specs.declared.halting.RunHalted.{RunHalted}
use Rattle.ygg_run_commands.specs.declared.halting.RunHalted.TheVariants.{DeviceFailed, SinkFailed, Memory}

-- what is given by what ended so, in which power can't fail
abbrev pub given_of : Ending → Result Answer RunHalted
given_of (Whole answer) = Ok answer
given_of Down = Err Memory
given_of Failed = Err DeviceFailed
given_of Starved = Err Memory

-- a text was put, or a front of it where the sink failed
abbrev pub IsPut : List ℕ → (before now : Option (List ℕ)) → (SinkRose : Type 0) → Result (Unit {0}) RunHalted → Type 0
IsPut text before now SinkRose (Ok done) = Adds before text now
IsPut text before now SinkRose (Err SinkFailed) = SinkRose × (front : List ℕ) × IsFront front text × Adds before front now
IsPut text before now SinkRose (Err DeviceFailed) = ⊥
IsPut text before now SinkRose (Err Memory) = now ≡ before

-- the line of an entry
abbrev pub entry_line : Entry → List ℕ
entry_line e = ended (answer_text (answer_in e))

module _ {S : Type 0} (G : Meaning S) (f : File) where
  -- all layers of the file are there, and may be woken
  pub record AllStand (v : View S) : Type 0 where
    pub stands : ViewStands G f v
    pub all : v.height ≡ length f.layers

  -- all layers of the file are there, and run
  pub record AllRun (v : View S) : Type 0 where
    pub runs : ViewRuns G f v
    pub all : v.height ≡ length f.layers

  -- the ground's count of faults has risen
  abbrev pub FaultsRose : View S → View S → Type 0
  FaultsRose v v' = Rose (G.faults v.base) (G.faults v'.base)

  module _ (v v' : View S) where
    -- how a waking ended
    abbrev pub WakesSo : Result (Unit {0}) RunHalted → Type 0
    WakesSo (Ok done) = AllRun v' × (notes : List Note) × ((cause : Cause) → (layers_on G f cause).Wakes v.base notes (state_seen f v'))
    WakesSo (Err DeviceFailed) = FaultsRose v v' × StopsWaking (layers_on G f) f v.base v'.base
    WakesSo (Err SinkFailed) = ⊥
    WakesSo (Err Memory) = StopsWaking (layers_on G f) f v.base v'.base

    -- and the count of faults hasn't fallen
    pub record Woke (result : Result (Unit {0}) RunHalted) : Type 0 where
      pub so : WakesSo result
      pub later : G.faults v.base ≤ G.faults v'.base

    module _ (c : Command) where
      -- a command was whole, with this entry
      pub record DidWhole (e : Entry) : Type 0 where
        pub runs : AllRun v'
        pub ran : Ran f c e
        pub step : (cause : Cause) → Step (layers_on G f cause) e (state_seen f v) (state_seen f v')

      -- it was given up
      abbrev pub DidPart : Type 0
      DidPart = LeftOf (layers_on G f) f c (state_seen f v) v'.base

      -- how it ended
      abbrev pub DidSo : Result Answer RunHalted → Type 0
      DidSo (Ok answer) = (e : Entry) × DidWhole e × (answer_in e ≡ answer)
      DidSo (Err DeviceFailed) = FaultsRose v v' × DidPart
      DidSo (Err SinkFailed) = ⊥
      DidSo (Err Memory) = DidPart

      pub record Did (result : Result Answer RunHalted) : Type 0 where
        pub so : DidSo result
        pub later : G.faults v.base ≤ G.faults v'.base

      -- how it ended, if its line was to be put
      abbrev pub AnswersSo : (before now : Option (List ℕ)) → (SinkRose : Type 0) → Result (Unit {0}) RunHalted → Type 0
      AnswersSo before now SinkRose (Ok done) = (e : Entry) × DidWhole e × Adds before (entry_line e) now
      AnswersSo before now SinkRose (Err DeviceFailed) = FaultsRose v v' × DidPart × (now ≡ before)
      AnswersSo before now SinkRose (Err SinkFailed) =
          SinkRose × (e : Entry) × DidWhole e × (front : List ℕ) × IsFront front (entry_line e) × Adds before front now
      AnswersSo before now SinkRose (Err Memory) = (DidPart ⊎ ((e : Entry) × DidWhole e)) × (now ≡ before)

      pub record Answered (before now : Option (List ℕ)) (SinkRose : Type 0) (result : Result (Unit {0}) RunHalted) : Type 0 where
        pub so : AnswersSo before now SinkRose result
        pub later : G.faults v.base ≤ G.faults v'.base
