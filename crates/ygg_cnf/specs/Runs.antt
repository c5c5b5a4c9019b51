-- Runs of bytes in a line: its literals, and its numbers of clauses.
use Rattle.std.specs.Prelude.{ℕ, zero, suc, ◌≤◌, Bool, true, false, List, ◌++◌, length, take}
use Rattle.ygg_cnf.specs.declared.lit.Lit.{Lit}
use Rattle.ygg_cnf.specs.declared.numbers.Among.{Among}
use Rattle.ygg_cnf.specs.declared.numbers.Among.TheVariants as among
use Rattle.ygg_cnf.specs.declared.numbers.NumberRun.{NumberRun}
use Rattle.ygg_cnf.specs.declared.literals.LiteralPart.{LiteralPart}
use Rattle.ygg_cnf.specs.declared.literals.LiteralRun.{LiteralRun}
use Rattle.ygg_cnf.specs.declared.literals.Within.{Within}
use Rattle.ygg_cnf.specs.declared.literals.Within.TheVariants as within
use Rattle.ygg_cnf.specs.declared.reader.StepReader.{StepReader}
use Rattle.ygg_cnf.specs.declared.spot.Spot.{Spot}
use Rattle.ygg_cnf.specs.declared.spot.Spot.TheVariants as spot
use Rattle.ygg_cnf.specs.declared.spot.SpotTurn.TheVariants as turn
use Rattle.ygg_cnf.specs.Spots.{Turns}
use Rattle.ygg_cnf.specs.Reading.{IsReading}

-- the place in the digits of this number, or before the next number where it is 0
abbrev pub spot_of : ℕ → Spot
spot_of zero = spot.Number
spot_of (suc n) = spot.Digits (suc n)

-- what the byte does there
abbrev pub IsAmong : ℕ → ℕ → Among → Type 0
IsAmong number byte (among.Digits n) = Turns (spot_of number) byte (turn.To (spot_of n))
IsAmong number byte (among.Number n) = Turns (spot_of number) byte (turn.Number n)
IsAmong number byte among.Other = Unit {0}

-- the place in a literal whose digits give this number, with or without a `-`, or before its digits where it is 0
abbrev pub part_spot : ℕ → Bool → Spot
part_spot zero false = spot.Literal
part_spot zero true = spot.Minus
part_spot (suc n) negated = spot.Variable negated (suc n)

-- the place in a literal of which this is read
abbrev pub spot_in : LiteralPart → Spot
spot_in part = part_spot part.number part.negated

-- what the byte does in a literal whose digits give this number
abbrev pub IsWithin : ℕ → Bool → ℕ → Within → Type 0
IsWithin number negated byte (within.Part more) = Turns (part_spot number negated) byte (turn.To (spot_in more))
IsWithin number negated byte (within.Literal x) = Turns (part_spot number negated) byte (turn.Literal x)
IsWithin number negated byte within.Other = Unit {0}

-- a reader at that place, after these literals and numbers
abbrev pub reader_at : ℕ → List Lit → List ℕ → StepReader
reader_at number clause chain = record { spot = spot_of number; clause = clause; chain = chain }

-- so many bytes of the piece are read, and lead from the one reader to the other
pub record IsRun (piece : List ℕ) (old new : StepReader) (count : ℕ) : Type 0 where
  pub within : count ≤ length piece
  pub reading : (before : List ℕ) → IsReading before old → IsReading (before ++ take count piece) new

-- the bytes of a run lead from the digits of the one number, after these numbers, to those of the other
abbrev pub Runs : List ℕ → ℕ → List ℕ → List ℕ → NumberRun → Type 0
Runs piece number old new run = (clause : List Lit) → IsRun piece (reader_at number clause old) (reader_at run.number clause new) run.count

-- the bytes of a run lead from the one part of a literal, after these literals, to the other
abbrev pub RunsTo : List ℕ → LiteralPart → List Lit → List Lit → LiteralRun → Type 0
RunsTo piece from old new run = (chain : List ℕ) →
    IsRun piece (record { spot = spot_in from; clause = old; chain = chain }) (record { spot = spot_in run.part; clause = new; chain = chain }) run.count
