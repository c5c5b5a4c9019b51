-- What a scanner within a text still gives.
use Rattle.std.specs.Prelude.{ℕ, ◌+◌, ◌≤◌, List, slice_range, drop}
use Rattle.ygg_base.specs.Lexing.{Lexed, lex, after_these}
use Rattle.ygg_lex.specs.declared.scanner.Scanner.{Scanner}

-- what the whole text gives, where the scanner has read it up to that place
abbrev pub from_here : Scanner → List ℕ → ℕ → Lexed
from_here s text place = after_these s.items (lex (slice_range text s.start place) s.begun s.line s.column (drop place text))

-- the scanner's places are those of so many bytes
pub record IsWithin (s : Scanner) (place : ℕ) : Type 0 where
  pub start : s.start ≤ place
  pub begun : s.begun ≤ place + 1
  pub line : s.line ≤ place + 1
  pub column : s.column ≤ place + 1
