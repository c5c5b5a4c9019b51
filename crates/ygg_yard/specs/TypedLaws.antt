-- The law of the types of files that are made.
use Rattle.std.specs.Prelude.{ℕ, ◌≤◌}
use Rattle.ygg_type_rules.specs.Files.{IsTyped}
use Rattle.ygg_yard.specs.Trees.{Places, file_made}

-- a file with 1 to 256 operations has no type error, wherever its tokens stand
abbrev pub MadeIsTyped : Type 0
MadeIsTyped = (at : Places) (count : ℕ) → 1 ≤ count → count ≤ 256 → IsTyped (file_made at count)
