-- What is put where a script of a file is played.
use Rattle.std.specs.Prelude.{◌≡◌, ℕ, List}
use Rattle.ygg_base.specs.declared.failure.Refusal.{Refusal}
use Rattle.ygg_base.specs.declared.status.Status.{Status}
use Rattle.ygg_base.specs.declared.status.Status.TheVariants.{Done}
use Rattle.ygg_syntax.specs.declared.tree.File.{File}
use Rattle.ygg_run.specs.ygg_report.Putting.{IsFront}
use Rattle.ygg_run.specs.ygg_script.declared.command.Command.{Command}
use Rattle.ygg_run.specs.ygg_run_play.Played.{IsPlay, IsUnreached, unreached_at}

-- the refusal of the first stop that isn't reached
abbrev pub RefusesPlay : File → List Command → Refusal → Type 0
RefusesPlay f script r = (line : ℕ) × (r ≡ unreached_at line) × IsUnreached f script line

-- the text of the history that the script names
abbrev pub PlaysTo : File → List Command → Status → List ℕ → Type 0
PlaysTo f script status text = (status ≡ Done) × IsPlay f script text

-- a front of that text
abbrev pub IsFrontOfPlay : File → List Command → List ℕ → Type 0
IsFrontOfPlay f script front = (text : List ℕ) × IsPlay f script text × IsFront front text
