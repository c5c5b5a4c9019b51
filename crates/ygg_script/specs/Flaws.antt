-- The refusals of a script's text.
use Rattle.std.specs.Prelude.{ℕ, Bool, if◌then◌else◌, Option, Some, None, Ok, Err}
use Rattle.ygg_base.specs.declared.failure.Refusal.{Refusal}
use Rattle.ygg_sched.specs.Lines.{Read}
use Rattle.ygg_script.specs.declared.flaw.ScriptFlaw.{ScriptFlaw}
use Rattle.ygg_script.specs.declared.flaw.ScriptFlaw.TheVariants.{Line, Operation, Argument}

-- the number of each flaw
abbrev pub number_of : ScriptFlaw → ℕ
number_of Line = 41
number_of Operation = 42
number_of Argument = 43

-- the refusal for a flaw of the line of this number
abbrev pub refusal_at : ScriptFlaw → ℕ → Refusal
refusal_at flaw line = record { number = number_of flaw; line = line; column = 1 }

-- something that is there, or else the refusal for a flaw of the line of this number
abbrev pub wanted : {A : Type 0} → ScriptFlaw → ℕ → Option A → Read A
wanted flaw line None = Err (refusal_at flaw line)
wanted flaw line (Some x) = Ok x

-- a test that passes, or else the refusal for a flaw of the line of this number
abbrev pub checked : ScriptFlaw → ℕ → Bool → Read (Unit {0})
checked flaw line test = if test then Ok tt else Err (refusal_at flaw line)
