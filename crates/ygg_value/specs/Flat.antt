-- A table that lies in one list.
use Rattle.std.specs.Prelude.{ℕ, ◌≡◌, ◌<◌, ◌≤◌, ◌*◌, ◌^◌, List, length, All}

-- the numbers are those of a table, one row after another
pub record IsFlat (width words rows : ℕ) (numbers : List ℕ) : Type 0 where
  pub least : 1 ≤ width
  pub most : width ≤ 64
  pub some : 1 ≤ words
  pub few : words ≤ 64
  pub rows_some : 1 ≤ rows
  pub rows_few : rows ≤ 256
  pub bounded : rows * words ≤ 4096
  pub laid : length numbers ≡ rows * words
  pub fits : All (λ n. n < 2 ^ width) numbers
