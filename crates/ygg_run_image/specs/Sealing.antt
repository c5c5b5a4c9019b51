-- How an image whose rows are written is sealed.
use Rattle.std.specs.Prelude.{◌≡◌, ◌⊎◌, true, ℕ, List, take, replicate}
use Rattle.ygg_base.specs.declared.geometry.Geometry.{Geometry}
use Rattle.ygg_base.specs.declared.outside.Moved.{Moved}
use Rattle.ygg_base.specs.declared.outside.Moved.TheVariants.{Done, Failed}
use Rattle.ygg_run_image.specs.ygg_base.Devices.{Image, Attachment}
use Rattle.ygg_run_image.specs.Image.{block_bytes, image, rows_in}
use Rattle.ygg_run_image.specs.Judged.{IsSealed}

-- bytes that begin with a block of zeros, as those of an image do that was created and isn't sealed
abbrev pub IsUnsealed : Geometry → List ℕ → Type 0
IsUnsealed g bytes = take (block_bytes g) bytes ≡ replicate (block_bytes g) 0

-- both lists of an image begin so
pub record IsFresh (g : Geometry) (i : Image) : Type 0 where
  pub view : IsUnsealed g i.view
  pub stable : IsUnsealed g i.stable

-- the sealed image of the rows that are read of an image
abbrev pub sealed_of : Geometry → Image → List ℕ
sealed_of g i = image g true (rows_in g i.view)

-- both lists of an image are these bytes
abbrev pub HasBytes : List ℕ → Image → Type 0
HasBytes bytes i = (i.view ≡ bytes) × (i.stable ≡ bytes)

-- bytes are those as before, or these
abbrev pub MayBe : (bytes before now : List ℕ) → Type 0
MayBe bytes before now = (now ≡ before) ⊎ (now ≡ bytes)

-- what writing the header and making it stay makes of an image of which the same is read as is left when power fails
abbrev pub HeaderTurns : Geometry → Moved → Attachment → (before now : Image) → Type 0
HeaderTurns g Done a before now = HasBytes (sealed_of g before) now
HeaderTurns g Failed a before now = MayBe (sealed_of g before) before.view now.view × MayBe (sealed_of g before) before.view now.stable

-- bytes that are sealed only where they are these
abbrev pub SealedOnlyAs : Geometry → (bytes now : List ℕ) → Type 0
SealedOnlyAs g bytes now = IsSealed g now → now ≡ bytes

-- what sealing makes of an image that isn't sealed: it is the sealed image of its rows; or neither list is sealed but as that
abbrev pub SealTurns : Geometry → Moved → Attachment → (before now : Image) → Type 0
SealTurns g Done a before now = HasBytes (sealed_of g before) now
SealTurns g Failed a before now = SealedOnlyAs g (sealed_of g before) now.view × SealedOnlyAs g (sealed_of g before) now.stable
