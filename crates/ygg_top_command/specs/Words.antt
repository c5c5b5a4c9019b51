-- Numbers among the words of a command.
use Rattle.std.specs.Prelude.{◌≡◌, ℕ, ◌≤◌, List}
use Rattle.std.specs.Fmt.{decimal}

-- the budget where none is given
abbrev pub usual_budget : ℕ
usual_budget = 200000

-- the greatest budget
abbrev pub most_budget : ℕ
most_budget = 10000000

-- the word is this number: one from 1 to the greatest in decimal digits, without a sign or a leading zero
pub record IsNumber (greatest : ℕ) (word : List ℕ) (number : ℕ) : Type 0 where
  pub digits : word ≡ decimal number
  pub least : 1 ≤ number
  pub most : number ≤ greatest

-- the word is no such number
abbrev pub IsNoNumber : ℕ → List ℕ → Type 0
IsNoNumber greatest word = (number : ℕ) → IsNumber greatest word number → ⊥

-- the word is this budget
abbrev pub IsBudget : List ℕ → ℕ → Type 0
IsBudget = IsNumber most_budget

-- the word is no budget
abbrev pub IsNoBudget : List ℕ → Type 0
IsNoBudget = IsNoNumber most_budget
