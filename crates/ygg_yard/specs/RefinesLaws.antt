-- The law of the obligations of files that are made.
use Rattle.std.specs.Prelude.{◌≡◌, ℕ, ◌+◌, ◌*◌, All, length}
use Rattle.ygg_syntax.specs.declared.tree.File.{File}
use Rattle.ygg_meaning_laws.specs.ygg_meaning.Claims.{ClaimHolds, claims_of}
use Rattle.ygg_yard.specs.Trees.{Places, file_made}

-- a file with so many operations has this many obligations, and each of them holds
pub record HoldsAll (count : ℕ) (f : File) : Type 0 where
  pub counted : length (claims_of f) ≡ 2 * count + 3
  pub hold : All ClaimHolds (claims_of f)

-- so has each file that is made, wherever its tokens stand
abbrev pub MadeHolds : Type 0
MadeHolds = (at : Places) (count : ℕ) → HoldsAll count (file_made at count)
