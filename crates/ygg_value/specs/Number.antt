-- Words, rows and tables as contracts see them: numbers, and lists of numbers.
use Rattle.std.specs.Prelude.{ℕ, ◌<◌, ◌≤◌, ◌≡◌, ◌^◌, ◌*◌, List, length, All}

-- a number, and how many binary digits wide it is
pub record Number : Type 0 where
  pub width : ℕ
  pub bits : ℕ

-- a width from 1 to 64, and a number below 2 ^ width
pub record IsWord (w : Number) : Type 0 where
  pub least : 1 ≤ w.width
  pub most : w.width ≤ 64
  pub fits : w.bits < 2 ^ w.width

-- numbers in order, and the width that they all have
pub record Digits : Type 0 where
  pub width : ℕ
  pub words : List ℕ

-- 1 to 64 numbers of one width from 1 to 64
pub record IsRow (r : Digits) : Type 0 where
  pub least : 1 ≤ r.width
  pub most : r.width ≤ 64
  pub some : 1 ≤ length r.words
  pub few : length r.words ≤ 64
  pub fits : All (λ n. n < 2 ^ r.width) r.words

-- rows in order, how many numbers each has, and the width that all numbers have
pub record Grid : Type 0 where
  pub width : ℕ
  pub words : ℕ
  pub rows : List (List ℕ)

-- 1 to 256 rows of as many numbers each, 1 to 64 a row and at most 4,096 in all, of one width from 1 to 64
pub record IsTable (t : Grid) : Type 0 where
  pub least : 1 ≤ t.width
  pub most : t.width ≤ 64
  pub some : 1 ≤ t.words
  pub few : t.words ≤ 64
  pub rows_some : 1 ≤ length t.rows
  pub rows_few : length t.rows ≤ 256
  pub bounded : length t.rows * t.words ≤ 4096
  pub even : All (λ (row : List ℕ). length row ≡ t.words) t.rows
  pub fits : All (λ (row : List ℕ). All (λ n. n < 2 ^ t.width) row) t.rows
