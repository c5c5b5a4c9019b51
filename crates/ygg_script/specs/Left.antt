-- What the reader has left of a text.
use Rattle.std.specs.Prelude.{◌≡◌, ℕ, ◌+◌, ◌<◌, List, [], ◌∷◌, length, Option, Some, None}
use Rattle.ygg_sched.specs.declared.rest.Rest.{Rest}
use Rattle.ygg_sched.specs.Words.{parts}
use Rattle.ygg_script.specs.Reading.{pieces_of}

-- the pieces of what may be left of bytes
abbrev pub pieces_left : ℕ → Option (List ℕ) → List (List ℕ)
pieces_left mark None = []
pieces_left mark (Some bytes) = parts mark bytes

-- the first line of what is left, and what is left after it
pub record IsNextLine (before : Rest) (text : List ℕ) (after : Rest) : Type 0 where
  pub pieces : pieces_of before.bytes.now ≡ text ∷ pieces_of after.bytes.now
  pub line : after.line ≡ before.line + 1
  pub shorter : length after.bytes.now < length before.bytes.now
