-- The kinds of lines of a schedule, each read from the front of what is left of a text, with the refusal of a line that is at fault.
use Rattle.std.specs.Prelude.{◌≡◌, ℕ, ◌+◌, Bool, ◌==◌, if◌then◌else◌, length, List, Option, Some, None, Result, Ok, Err, option_and_then, codes}
use Rattle.std.specs.Str.{bytes_eq}
use Rattle.ygg_base.specs.declared.failure.Refusal.{Refusal}
use Rattle.ygg_base.specs.declared.failure.Refuse.{Refuse}
use Rattle.ygg_base.specs.declared.failure.Refuse.TheVariants.{At, Memory}
use Rattle.ygg_value.specs.declared.row.Value.{Value}
use Rattle.ygg_syntax.specs.declared.tree.TypeText.{TypeText}
use Rattle.ygg_syntax.specs.declared.tree.File.{File}
use Rattle.ygg_sched.specs.declared.flaw.ScheduleFlaw.{ScheduleFlaw}
use Rattle.ygg_sched.specs.declared.flaw.ScheduleFlaw.TheVariants.{Line, Name, Width, Missing}
use Rattle.ygg_sched.specs.declared.rest.Rest.{Rest}
use Rattle.ygg_sched.specs.declared.schedule.Halt.{Halt}
use Rattle.ygg_sched.specs.Flaws.{refusal_at}
use Rattle.ygg_sched.specs.Sites.{Site, site_named}
use Rattle.ygg_sched.specs.Words.{cut_at, after_front, word_in, words_in}
use Rattle.ygg_sched.specs.Numbers.{bits_in, stop_in}
use Rattle.ygg_sched.specs.Values.{value_in}

-- what is left of a text: bytes that begin with the line of this number
pub record Left : Type 0 where
  pub line : ℕ
  pub bytes : List ℕ

-- what is left, in code
abbrev pub left_of : Rest → Left
left_of r = record { line = r.line; bytes = r.bytes.now }

-- something, or a refusal
abbrev pub Read : Type 0 → Type 0
Read A = Result A Refusal

-- first this, and then what follows from it
infixl 10 ◌>>=◌
abbrev pub ◌>>=◌ : {A B : Type 0} → Read A → (A → Read B) → Read B
(Ok x) >>= f = f x
(Err e) >>= f = Err e

-- what code answers, seen so, is what is read, unless no memory was left
abbrev pub Gives : {X Y : Type 0} → (X → Y) → Result X Refuse → Read Y → Type 0
Gives view (Ok x) read = read ≡ Ok (view x)
Gives view (Err (At refusal)) read = read ≡ Err refusal
Gives view (Err Memory) read = Unit {0}

-- something that is there, or else the refusal for a flaw of this line
abbrev pub wanted : {A : Type 0} → ScheduleFlaw → Left → Option A → Read A
wanted flaw at None = Err (refusal_at flaw at.line)
wanted flaw at (Some x) = Ok x

-- a test that passes, or else the refusal for a flaw of this line
abbrev pub checked : ScheduleFlaw → Left → Bool → Read (Unit {0})
checked flaw at test = if test then Ok tt else Err (refusal_at flaw at.line)

-- a line and what follows its line feed, where there is one
abbrev pub ended : Left → List ℕ → Option (List ℕ) → Read (List ℕ × Left)
ended at line None = Err (refusal_at Missing at.line)
ended at line (Some bytes) = Ok (line, record { line = at.line + 1; bytes = bytes })

-- the next line, and what is left after it
abbrev pub line_at : Left → Read (List ℕ × Left)
line_at at = ended at (cut_at 10 at.bytes).0 (cut_at 10 at.bytes).1

-- a line that is always the same: the first and the last
unfoldable pub fixed_at : List ℕ → Left → Read Left
fixed_at text at = do
  line ← line_at at
  same ← checked Line at (bytes_eq line.0 text)
  Ok line.1

-- the name in a line `obligation NAME`
abbrev pub obligation_in : List ℕ → Option (List ℕ)
obligation_in line = option_and_then word_in (after_front (codes "obligation ") line)

-- the line of the obligation, which is one of the file
unfoldable pub obligation_at : File → Left → Read ((List ℕ × Site) × Left)
obligation_at f at = do
  line ← line_at at
  name ← wanted Line at (obligation_in line.0)
  site ← wanted Name at (site_named f name)
  Ok ((name, site), line.1)

-- the variable and the value in a line that begins with a word and a space
abbrev pub variable_in : List ℕ → List ℕ → Option (List ℕ × List ℕ)
variable_in word line = option_and_then words_in (after_front word line)

-- the line of a variable of this name and type
unfoldable pub variable_at : List ℕ → List ℕ → TypeText → Left → Read (Value × Left)
variable_at word name type at = do
  line ← line_at at
  written ← wanted Line at (variable_in word line.0)
  same ← checked Name at (bytes_eq written.0 name)
  value ← wanted Width at (value_in type written.1)
  Ok (value, line.1)

-- the line of the stop
unfoldable pub stop_at : Left → Read (Halt × Left)
stop_at at = do
  line ← line_at at
  stop ← wanted Line at (stop_in line.0)
  Ok (stop, line.1)

-- a line of picks, which begins with a word and a space
unfoldable pub bits_at : List ℕ → Left → Read (List Bool × Left)
bits_at word at = do
  line ← line_at at
  bits ← wanted Line at (option_and_then bits_in (after_front word line.0))
  Ok (bits, line.1)

-- no bytes
unfoldable pub nothing_at : Left → Read (Unit {0})
nothing_at at = checked Line at (length at.bytes == 0)
