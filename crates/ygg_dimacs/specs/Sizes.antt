-- How much is left of a text.
use Rattle.std.specs.Prelude.{ℕ, ◌+◌, List, length, Option, Some, None}
use denote.Ref.{Bor}

-- a number that falls from line to line
abbrev pub left_size : Option (Bor (List ℕ)) → ℕ
left_size None = 0
left_size (Some bytes) = length bytes.now + 1
