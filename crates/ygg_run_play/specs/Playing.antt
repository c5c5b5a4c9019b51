-- How the play of a script ends.
use Rattle.std.specs.Prelude.{◌≡◌, ℕ, List, [], ◌++◌, Option, Result, Ok, Err}
use Rattle.ygg_syntax.specs.declared.tree.File.{File}
use Rattle.ygg_run_play.specs.ygg_meaning.Environments.{Env}
use Rattle.ygg_run_play.specs.ygg_meaning.Machine.{Picks, State, Machine}
use Rattle.ygg_run_play.specs.ygg_meaning.Noted.{Note}
use Rattle.ygg_run_play.specs.ygg_meaning.Trace.{Standing, Up, Moment}
use Rattle.ygg_run_play.specs.ygg_report.Putting.{Adds, IsFront}
use Rattle.ygg_run_play.specs.ygg_script.declared.command.Command.{Command}
use Rattle.ygg_run_play.specs.Named.{Names, Unreached}
use Rattle.ygg_run_play.specs.Lines.{moments_lines}
use Rattle.ygg_run_play.specs.Played.{Plays, MissesAt, unreached_at}
use Rattle.ygg_run_play.specs.Laws.{HasOneWay}
use Rattle.ygg_run_play.specs.declared.halting.PlayHalted.{PlayHalted}
use Rattle.ygg_run_play.specs.declared.halting.PlayHalted.TheVariants as halted

module _ (M : Machine Env Note) (f : File) where
  -- these bytes are a front of whatever text the script has
  abbrev pub IsPlayFront : List Command → List ℕ → Type 0
  IsPlayFront script front = HasOneWay M f → (text : List ℕ) → Plays M f script text → IsFront front text

  -- What the sink has taken by the end of a play: the text of the script; or a front of it, where the sink failed or no memory was left; or what comes
  -- before a stop that isn't reached.
  abbrev pub IsPlayed : List Command → Option (List ℕ) → Option (List ℕ) → (SinkRose : Type 0) → Result (Unit {0}) PlayHalted → Type 0
  IsPlayed script before now SinkRose (Ok done) = (text : List ℕ) × Plays M f script text × Adds before text now
  IsPlayed script before now SinkRose (Err (halted.Unreached r)) = (line : ℕ) × (r ≡ unreached_at line) × MissesAt M f script line
  IsPlayed script before now SinkRose (Err halted.SinkFailed) = SinkRose × (front : List ℕ) × IsPlayFront script front × Adds before front now
  IsPlayed script before now SinkRose (Err halted.Memory) = (front : List ℕ) × IsPlayFront script front × Adds before front now

  module _ (script : List Command) (start : State Env) where
    -- Where the lines of a script stand that are still to be played, the first of which has this number, and what was printed before them: what they name
    -- completes what the script names, a stop of theirs that isn't reached is the script's, and whatever the script names they complete.
    pub record Playing (rest : List Command) (line : ℕ) (picks : Picks) (at : Standing Env) (put : List ℕ) : Type 0 where
      pub plays : (more : List (Moment Note)) → Names M f rest picks at more →
          (ms : List (Moment Note)) × Names M f script [] (Up start) ms × (moments_lines ms ≡ put ++ moments_lines more)
      pub unreached : (wrong : ℕ) → Unreached M f line rest picks at wrong → Unreached M f 2 script [] (Up start) wrong
      pub only : HasOneWay M f → (ms : List (Moment Note)) → Names M f script [] (Up start) ms →
          (more : List (Moment Note)) × Names M f rest picks at more × (moments_lines ms ≡ put ++ moments_lines more)

    -- these bytes are a front of the lines of whatever the script names
    abbrev pub IsNamedFront : List ℕ → Type 0
    IsNamedFront front = HasOneWay M f → (ms : List (Moment Note)) → Names M f script [] (Up start) ms → IsFront front (moments_lines ms)

    -- how the lines of a script end that are played from where it was formatted
    abbrev pub ArePlayed : Option (List ℕ) → Option (List ℕ) → (SinkRose : Type 0) → Result (Unit {0}) PlayHalted → Type 0
    ArePlayed before now SinkRose (Ok done) = (ms : List (Moment Note)) × Names M f script [] (Up start) ms × Adds before (moments_lines ms) now
    ArePlayed before now SinkRose (Err (halted.Unreached r)) = (line : ℕ) × (r ≡ unreached_at line) × Unreached M f 2 script [] (Up start) line
    ArePlayed before now SinkRose (Err halted.SinkFailed) = SinkRose × (front : List ℕ) × IsNamedFront front × Adds before front now
    ArePlayed before now SinkRose (Err halted.Memory) = (front : List ℕ) × IsNamedFront front × Adds before front now
