-- Which steps of logs have a line, and which bytes can be continued to one.
use Rattle.std.specs.Prelude.{◌≡◌, ℕ, ◌<◌, ◌^◌, List, ◌++◌, All}
use Rattle.ygg_cnf.specs.declared.lit.Lit.{Lit}
use Rattle.ygg_cnf.specs.declared.log.Step.{Step}
use Rattle.ygg_cnf.specs.Logs.{clause_of, chain_of}
use Rattle.ygg_cnf.specs.Lines.{step_line}

-- a number that a line may have: 1 to 2 ^ 64 - 1
abbrev pub IsNumber : ℕ → Type 0
IsNumber n = (0 < n) × (n < 2 ^ 64)

-- a literal that a line may have
abbrev pub IsLiteral : Lit → Type 0
IsLiteral x = IsNumber x.var

-- a step whose line may stand in a log
pub record IsStep (step : Step) : Type 0 where
  pub literals : All IsLiteral (clause_of step)
  pub numbers : All IsNumber (chain_of step)

-- the bytes begin with the line of a step
pub record HasStep (bytes : List ℕ) : Type 0 where
  pub step : Step
  pub others : List ℕ
  pub may : IsStep step
  pub is : bytes ≡ step_line step ++ others

-- the bytes can be continued so that they begin with the line of a step
abbrev pub BeginsStep : List ℕ → Type 0
BeginsStep bytes = (more : List ℕ) × HasStep (bytes ++ more)
