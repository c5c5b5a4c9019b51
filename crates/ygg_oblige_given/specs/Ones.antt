-- Numbers by place, and which of them are 1.
use Rattle.std.specs.Prelude.{ℕ, ◌==◌, if◌then◌else◌, Bool, List, get_or}
use Rattle.ygg_oblige_laws.specs.ygg_bank.Values.{Inputs}
use Rattle.ygg_oblige_laws.specs.ygg_bank.declared.env.Given.{Given}
use Rattle.ygg_oblige_laws.specs.ygg_bank.declared.env.Given.TheVariants as given

-- the number at a place; 0 past the end
abbrev pub number_at : List ℕ → ℕ → ℕ
number_at numbers place = get_or numbers place 0

-- whether a number is 1
abbrev pub is_one : ℕ → Bool
is_one n = n == 1

-- what an item of an environment gives, over what other items give
abbrev pub given_over : Given → Inputs → Inputs
given_over (given.Word k w) before n = if k == n then w.bits else before n
