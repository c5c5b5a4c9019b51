-- What is read of the line of a step.
use Rattle.std.specs.Prelude.{◌≡◌, ℕ, List, ◌++◌}
use Rattle.ygg_cnf.specs.declared.log.Step.TheVariants.{Added}
use Rattle.ygg_cnf.specs.Lines.{step_line}
use Rattle.ygg_cnf.specs.declared.reader.StepReader.{StepReader}
use Rattle.ygg_cnf.specs.declared.reader.StepHeard.{StepHeard}
use Rattle.ygg_cnf.specs.declared.reader.StepHeard.TheVariants.{More, Whole, Wrong}
use Rattle.ygg_cnf.specs.Steps.{IsStep, HasStep, BeginsStep}
use Rattle.ygg_cnf.specs.Spots.{IsSpot, IsBare, front_of, GoesOn}

-- The reader has read these bytes: they stand before its place, and what continues them to a line goes on from there.
pub record IsReading (bytes : List ℕ) (reader : StepReader) : Type 0 where
  pub front : bytes ≡ front_of reader.spot reader.clause reader.chain
  pub on : (more : List ℕ) → HasStep (bytes ++ more) → GoesOn reader.spot more
  pub place : IsSpot reader.spot
  pub bare : IsBare reader.spot reader.clause reader.chain
  pub may : IsStep (Added reader.clause reader.chain)

-- what is said of these bytes: they can be continued, they are the line of the reader's step, or they can't be continued to a line
abbrev pub Hears : List ℕ → StepReader → StepHeard → Type 0
Hears bytes reader More = IsReading bytes reader
Hears bytes reader Whole = IsStep (Added reader.clause reader.chain) × (bytes ≡ step_line (Added reader.clause reader.chain))
Hears bytes reader Wrong = BeginsStep bytes → ⊥
