-- The numbers of refusals.
use Rattle.std.specs.Prelude.{ℕ}
use Rattle.ygg_base.specs.declared.failure.Refusal.{Refusal}
use Rattle.ygg_base.specs.declared.reason.Reason.{Reason}
use Rattle.ygg_base.specs.declared.reason.Reason.TheVariants.{
  NotAscii,
  Token,
  Syntax,
  Unknown,
  Twice,
  Width,
  Shape,
  Limit,
  TooLong,
  TooManyChoices,
  TooLarge,
  Words,
  Number,
  Absent,
  NoObligation,
}

-- the number of each reason
abbrev pub number_of : Reason → ℕ
number_of NotAscii = 1
number_of Token = 2
number_of Syntax = 3
number_of Unknown = 4
number_of Twice = 5
number_of Width = 6
number_of Shape = 7
number_of Limit = 8
number_of TooLong = 9
number_of TooManyChoices = 10
number_of TooLarge = 11
number_of Words = 71
number_of Number = 72
number_of Absent = 73
number_of NoObligation = 74

-- the refusal for a reason at a line and a column
abbrev pub refusal_at : Reason → ℕ → ℕ → Refusal
refusal_at reason line column = record { number = number_of reason; line = line; column = column }
