-- Laws of images.
use Rattle.std.specs.Prelude.{◌≡◌, ℕ, ◌+◌, ◌<◌, Bool, true, List, length, take, replicate, All, None}
use Rattle.ygg_base.specs.declared.geometry.Geometry.{Geometry}
use Rattle.ygg_base.specs.Devices.{with_block}
use Rattle.ygg_value.specs.Number.{Grid}
use Rattle.ygg_value.specs.Shapes.{IsShape}
use Rattle.ygg_value.specs.Values.{table_write}
use Rattle.ygg_disk.specs.Size.{table_shape, zeros_of}
use Rattle.ygg_run_image.specs.Image.{block_bytes, header, image, image_bytes, row_block, rows_in}
use Rattle.ygg_run_image.specs.Judged.{AreWords, HoldsRows, IsJudged}

-- rows of the size of a disk that keeps the limits
pub record AreRows (g : Geometry) (rows : Grid) : Type 0 where
  pub limits : IsShape (table_shape g)
  pub width : rows.width ≡ g.width
  pub words : rows.words ≡ g.words
  pub many : length rows.rows ≡ g.rows
  pub each : All (AreWords g) rows.rows

-- as many bytes as an image of the disk, of which each block after the first is that of a row
pub record AreBlocks (g : Geometry) (bytes : List ℕ) : Type 0 where
  pub limits : IsShape (table_shape g)
  pub whole : length bytes ≡ image_bytes g
  pub rows : HoldsRows g bytes

-- an image of rows holds these rows, and so is the image of no others
abbrev pub ImagesHoldTheirRows : Type 0
ImagesHoldTheirRows = (g : Geometry) (sealed : Bool) (rows : Grid) → AreRows g rows → rows_in g (image g sealed rows) ≡ rows

-- an image of rows has as many bytes as it is to have, and its blocks are those of rows
abbrev pub ImagesAreBlocks : Type 0
ImagesAreBlocks = (g : Geometry) (sealed : Bool) (rows : Grid) → AreRows g rows → AreBlocks g (image g sealed rows)

-- a sealed image of rows is accepted
abbrev pub ImagesAreAccepted : Type 0
ImagesAreAccepted = (g : Geometry) (rows : Grid) → AreRows g rows → IsJudged g (image g true rows) None

-- blocks of which the first is the header are the image of the rows that they hold
abbrev pub BlocksAreImages : Type 0
BlocksAreImages =
    (g : Geometry) (sealed : Bool) (bytes : List ℕ) → AreBlocks g bytes → take (block_bytes g) bytes ≡ header g sealed →
    AreRows g (rows_in g bytes) × (bytes ≡ image g sealed (rows_in g bytes))

-- blocks of which the first is written hold the same rows
abbrev pub HeadersHoldNoRows : Type 0
HeadersHoldNoRows =
    (g : Geometry) (block bytes : List ℕ) → AreBlocks g bytes → length block ≡ block_bytes g →
    AreBlocks g (with_block (block_bytes g) 0 block bytes) × (rows_in g (with_block (block_bytes g) 0 block bytes) ≡ rows_in g bytes)

-- blocks in which the block of a row is written hold that row at its place, and the others as before
abbrev pub WrittenRowsAreHeld : Type 0
WrittenRowsAreHeld =
    (g : Geometry) (at : ℕ) (words bytes : List ℕ) → AreBlocks g bytes → at < g.rows → AreWords g words →
    AreBlocks g (with_block (block_bytes g) (at + 1) (row_block g words) bytes)
    × (rows_in g (with_block (block_bytes g) (at + 1) (row_block g words) bytes) ≡ table_write (rows_in g bytes) at (record { width = g.width; words = words }))

-- zeros alone hold rows of zeros
abbrev pub ZerosHoldZeros : Type 0
ZerosHoldZeros =
    (g : Geometry) → IsShape (table_shape g) → AreBlocks g (replicate (image_bytes g) 0) × (rows_in g (replicate (image_bytes g) 0) ≡ zeros_of g)
