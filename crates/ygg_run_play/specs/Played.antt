-- What is printed where a script is played on a file's layers, and where it is refused.
use Rattle.std.specs.Prelude.{◌≡◌, ℕ, true, All, List, []}
use Rattle.ygg_base.specs.declared.failure.Refusal.{Refusal}
use Rattle.ygg_syntax.specs.declared.tree.File.{File}
use Rattle.ygg_script.specs.ygg_meaning.Environments.{Env}
use Rattle.ygg_script.specs.ygg_meaning.Machine.{State, Machine}
use Rattle.ygg_script.specs.ygg_meaning.Stack.{Stacked, layers_of}
use Rattle.ygg_script.specs.ygg_meaning.Trace.{Up, Moment}
use Rattle.ygg_script.specs.ygg_meaning.Noted.{Note, picks_in, NotedDisk}
use Rattle.ygg_script.specs.declared.command.Command.{Command}
use Rattle.ygg_run_play.specs.Named.{Names, Unreached}
use Rattle.ygg_run_play.specs.Lines.{text_of}

-- the machine is freshly formatted, with all writes kept
pub record IsFresh (M : Machine Env Note) (start : State Env) : Type 0 where
  pub notes : List Note
  pub starts : M.Starts start notes
  pub kept : All (λ pick. pick ≡ true) (picks_in notes)

-- The machine, freshly formatted, does what the script of the file names, and the text is that of these moments. Of the format nothing is printed.
pub record Plays (M : Machine Env Note) (f : File) (script : List Command) (text : List ℕ) : Type 0 where
  pub start : State Env
  pub fresh : IsFresh M start
  pub moments : List (Moment Note)
  pub names : Names M f script [] (Up start) moments
  pub prints : text ≡ text_of script moments

-- The machine, freshly formatted, does what the script of the file names up to where the stop on the line of this number isn't reached. The first
-- command stands on line 2.
pub record MissesAt (M : Machine Env Note) (f : File) (script : List Command) (line : ℕ) : Type 0 where
  pub start : State Env
  pub fresh : IsFresh M start
  pub unreached : Unreached M f 2 script [] (Up start) line

-- the layers of a file on its disk, with all disk calls noted
abbrev pub Noted : File → Machine Env Note
Noted f = Stacked (NotedDisk f.disk) (layers_of f)

-- the text of the one history that a script of a file names
abbrev pub IsPlay : File → List Command → List ℕ → Type 0
IsPlay f = Plays (Noted f) f

-- the stop on the line of this number is the first of the script that isn't reached on that history
abbrev pub IsUnreached : File → List Command → ℕ → Type 0
IsUnreached f = MissesAt (Noted f) f

-- the refusal of a stop that isn't reached
abbrev pub unreached_at : ℕ → Refusal
unreached_at line = record { number = 44; line = line; column = 1 }
