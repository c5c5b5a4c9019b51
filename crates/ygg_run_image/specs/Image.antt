-- The image of a disk: a header, and a block for each row. Numbers have their highest byte first.
use Rattle.std.specs.Prelude.{ℕ, ◌+◌, ◌-◌, ◌*◌, ◌/◌, ◌%◌, ◌^◌, max, Bool, List, [], ◌∷◌, ◌++◌, length, drop, replicate, map, fold, codes}
use Rattle.std.specs.Int.{bytes_high_first}
use Rattle.std.specs.List.{flat_map}
use Rattle.std.specs.Simd.{first_chunks}
use Rattle.ygg_base.specs.declared.geometry.Geometry.{Geometry}
use Rattle.ygg_value.specs.Number.{Grid}
use Rattle.ygg_value.specs.Words.{bit_of}

-- how many bytes a word has: those of its digits, rounded up
abbrev pub word_bytes : Geometry → ℕ
word_bytes g = (g.width + 7) / 8

-- how many bytes a block has: those of a row, and at least 16
abbrev pub block_bytes : Geometry → ℕ
block_bytes g = max 16 (g.words * word_bytes g)

-- how many bytes an image has: a block more than the disk has rows
abbrev pub image_bytes : Geometry → ℕ
image_bytes g = (g.rows + 1) * block_bytes g

-- these bytes, and zeros up to a size
abbrev pub padded : (size : ℕ) → List ℕ → List ℕ
padded size bytes = bytes ++ replicate (size - length bytes) 0

-- the eight bytes that an image begins with
abbrev pub mark : List ℕ
mark = codes "YGGIMG1" ++ 10 ∷ []

-- the five bytes that tell a disk's size: how many rows it has and how many words a row, in two bytes each, and how many digits a word has
abbrev pub sizes : Geometry → List ℕ
sizes g = bytes_high_first 2 g.rows ++ bytes_high_first 2 g.words ++ g.width ∷ []

-- the first block: the eight bytes, the five, the seal and zeros
abbrev pub header : Geometry → (sealed : Bool) → List ℕ
header g sealed = padded (block_bytes g) (mark ++ sizes g ++ bit_of sealed ∷ [])

-- the block of a row: its words in order, and zeros
abbrev pub row_block : Geometry → (words : List ℕ) → List ℕ
row_block g words = padded (block_bytes g) (flat_map (bytes_high_first (word_bytes g)) words)

-- the image of these rows
abbrev pub image : Geometry → (sealed : Bool) → Grid → List ℕ
image g sealed rows = header g sealed ++ flat_map (row_block g) rows.rows

-- the number that bytes are
abbrev pub number_in : List ℕ → ℕ
number_in = fold (λ high byte. high * 256 + byte) 0

-- the words that a block holds: of each number the low digits, as many as a word has
abbrev pub words_in : Geometry → (block : List ℕ) → List ℕ
words_in g block = map (λ bytes. number_in bytes % 2 ^ g.width) (first_chunks (word_bytes g) g.words block)

-- the rows that an image holds, one in each block after the first
abbrev pub rows_in : Geometry → (bytes : List ℕ) → Grid
rows_in g bytes = record {
  width = g.width;
  words = g.words;
  rows = map (words_in g) (first_chunks (block_bytes g) g.rows (drop (block_bytes g) bytes));
}
