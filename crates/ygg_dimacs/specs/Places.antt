-- Places of a text, and what stands at one.
use Rattle.std.specs.Prelude.{ℕ, List}

-- a place: a line, and a column in it, counted from 1 by line feeds and bytes
pub record TextPlace : Type 0 where
  pub line : ℕ
  pub column : ℕ

-- the place in this line and column
abbrev pub place : ℕ → ℕ → TextPlace
place line column = record { line = line; column = column }

-- a line with its number
pub record Line : Type 0 where
  pub number : ℕ
  pub bytes : List ℕ

-- a word with the place of its first byte
pub record TextWord : Type 0 where
  pub line : ℕ
  pub column : ℕ
  pub bytes : List ℕ

-- the word of these bytes at this place
abbrev pub word_at : ℕ → ℕ → List ℕ → TextWord
word_at line column bytes = record { line = line; column = column; bytes = bytes }
