-- The refusals of a schedule's text.
use Rattle.std.specs.Prelude.{ℕ}
use Rattle.ygg_base.specs.declared.failure.Refusal.{Refusal}
use Rattle.ygg_sched.specs.declared.flaw.ScheduleFlaw.{ScheduleFlaw}
use Rattle.ygg_sched.specs.declared.flaw.ScheduleFlaw.TheVariants.{Line, Name, Width, Missing}

-- the number of each flaw
abbrev pub number_of : ScheduleFlaw → ℕ
number_of Line = 31
number_of Name = 32
number_of Width = 33
number_of Missing = 34

-- the refusal for a flaw of the line of this number
abbrev pub refusal_at : ScheduleFlaw → ℕ → Refusal
refusal_at flaw line = record { number = number_of flaw; line = line; column = 1 }
