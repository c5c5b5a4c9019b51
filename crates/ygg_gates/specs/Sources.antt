-- Inputs and their variables.
use Rattle.std.specs.Prelude.{ℕ, ◌+◌, ◌*◌, ◌^◌, ◌<◌, ◌≤◌, zero, suc, Bool, List, map}
use Rattle.ygg_value.specs.Words.{word, bit_of}
use Rattle.ygg_bank.specs.declared.env.Given.{Given}
use Rattle.ygg_bank.specs.declared.env.Given.TheVariants as given

-- an input's number, how many bits it has, and the variable of the lowest one; the others follow it
pub record Variables : Type 0 where
  pub number : ℕ
  pub width : ℕ
  pub first : ℕ

-- a width from 1 to 64, and variables that 64 bits number
pub record IsSource (v : Variables) : Type 0 where
  pub least : 1 ≤ v.width
  pub most : v.width ≤ 64
  pub numbered : v.first + 64 < 2 ^ 64

-- the number whose bits, the lowest first, are the values of so many variables, counted on from the first
abbrev pub number_from : (ℕ → Bool) → ℕ → ℕ → ℕ
number_from value first zero = 0
number_from value first (suc width) = bit_of (value first) + 2 * number_from value (first + 1) width

-- the word that values of variables give an input
abbrev pub given_by : (ℕ → Bool) → Variables → Given
given_by value v = given.Word v.number (word v.width (number_from value v.first v.width))

-- the environment that gives each of the inputs the word of its variables' values
abbrev pub environment_by : (ℕ → Bool) → List Variables → List Given
environment_by value = map (given_by value)
