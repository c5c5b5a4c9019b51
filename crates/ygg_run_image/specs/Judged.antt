-- Which images are accepted, and why others are refused.
use Rattle.std.specs.Prelude.{◌≡◌, ℕ, ◌+◌, ◌<◌, ◌≤◌, ◌^◌, List, length, take, drop, slice_get, Option, Some, None, All}
use Rattle.ygg_base.specs.declared.geometry.Geometry.{Geometry}
use Rattle.ygg_base.specs.Devices.{block_at}
use Rattle.ygg_run_image.specs.Image.{block_bytes, image_bytes, mark, row_block, sizes}
use Rattle.ygg_run_image.specs.declared.reason.ImageReason.{ImageReason}
use Rattle.ygg_run_image.specs.declared.reason.ImageReason.TheVariants.{Unsealed, OtherDisk, SpareBits}

-- the number of each reason
abbrev pub number_of : ImageReason → ℕ
number_of Unsealed = 51
number_of OtherDisk = 52
number_of SpareBits = 53

-- the image is sealed: it is as long as a block at least, begins with the eight bytes, and its seal is 1
pub record IsSealed (g : Geometry) (bytes : List ℕ) : Type 0 where
  pub long : block_bytes g ≤ length bytes
  pub begins : take 8 bytes ≡ mark
  pub sealed : slice_get bytes 13 ≡ Some 1

-- the image is of a disk with as many rows, words and digits, and has as many bytes
pub record IsOfDisk (g : Geometry) (bytes : List ℕ) : Type 0 where
  pub sized : take 5 (drop 8 bytes) ≡ sizes g
  pub whole : length bytes ≡ image_bytes g

-- as many numbers as a row of the disk has words, each of which fits a word
pub record AreWords (g : Geometry) (words : List ℕ) : Type 0 where
  pub many : length words ≡ g.words
  pub fits : All (λ n. n < 2 ^ g.width) words

-- the block is that of a row of the disk: each number in it fits a word, and each byte after the row is zero
abbrev pub IsRowBlock : Geometry → (block : List ℕ) → Type 0
IsRowBlock g block = (words : List ℕ) × AreWords g words × (block ≡ row_block g words)

-- each block after the first is that of a row
abbrev pub HoldsRows : Geometry → (bytes : List ℕ) → Type 0
HoldsRows g bytes = (place : ℕ) → place < g.rows → IsRowBlock g (block_at (block_bytes g) (place + 1) bytes)

-- an image is refused for the first of the three that it isn't, and is accepted where it is all of them
abbrev pub IsJudged : Geometry → (bytes : List ℕ) → Option ImageReason → Type 0
IsJudged g bytes (Some Unsealed) = IsSealed g bytes → ⊥
IsJudged g bytes (Some OtherDisk) = IsSealed g bytes × (IsOfDisk g bytes → ⊥)
IsJudged g bytes (Some SpareBits) = IsSealed g bytes × IsOfDisk g bytes × (HoldsRows g bytes → ⊥)
IsJudged g bytes None = IsSealed g bytes × IsOfDisk g bytes × HoldsRows g bytes

-- the same, where the blocks after the first aren't looked at
abbrev pub IsHeaderJudged : Geometry → (bytes : List ℕ) → Option ImageReason → Type 0
IsHeaderJudged g bytes (Some Unsealed) = IsSealed g bytes → ⊥
IsHeaderJudged g bytes (Some OtherDisk) = IsSealed g bytes × (IsOfDisk g bytes → ⊥)
IsHeaderJudged g bytes (Some SpareBits) = ⊥
IsHeaderJudged g bytes None = IsSealed g bytes × IsOfDisk g bytes

-- an image of so many bytes begins with this block, if it is as long as a block
abbrev pub BeginsWith : Geometry → (block : List ℕ) → (count : ℕ) → (bytes : List ℕ) → Type 0
BeginsWith g block count bytes = (length bytes ≡ count) × (block_bytes g ≤ count → take (block_bytes g) bytes ≡ block)
