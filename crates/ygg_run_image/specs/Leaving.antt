-- What formatting leaves of an image, and of all others.
use Rattle.std.specs.Prelude.{◌≡◌, ◌⊎◌, ◌+◌, true, List, [], ◌∷◌, ℕ, Option, Some, None, IfSome, replicate}
use Rattle.ygg_base.specs.declared.geometry.Geometry.{Geometry}
use Rattle.ygg_run_image.specs.ygg_base.Devices.{Image, Attachment, OthersStay, image_of}
use Rattle.ygg_value.specs.Number.{Grid}
use Rattle.ygg_syntax.specs.declared.tree.File.{File}
use Rattle.ygg_run_image.specs.ygg_type.Typed.{geometry_of}
use Rattle.ygg_run_image.specs.ygg_meaning.History.{Lost}
use Rattle.ygg_run_image.specs.ygg_meaning.Left.{Left}
use Rattle.ygg_run_image.specs.Image.{block_bytes, image, image_bytes, rows_in}
use Rattle.ygg_run_image.specs.Judged.{IsSealed}
use Rattle.ygg_run_image.specs.Sight.{Holds, held}
use Rattle.ygg_run_image.specs.Formatted.{AreFormatted}
use Rattle.ygg_run_image.specs.Sealing.{HasBytes, IsFresh}
use Rattle.ygg_run_image.specs.declared.end.FormatEnd.{FormatEnd}
use Rattle.ygg_run_image.specs.declared.end.FormatEnd.TheVariants as end

-- both lists of an image are zeros, as many as an image of the disk has
abbrev pub IsBlank : Geometry → Image → Type 0
IsBlank g = HasBytes (replicate (image_bytes g) 0)

-- the image of this name, seen as the blocks of an image of the file's disk
abbrev pub attachment_for : File → List ℕ → Attachment
attachment_for f name = record { name = name; size = block_bytes (geometry_of f.disk); count = (geometry_of f.disk).rows + 1 }

-- an image that isn't sealed, and is read as one of the rows of a format
pub record IsFilled (f : File) (i : Image) : Type 0 where
  pub fresh : IsFresh (geometry_of f.disk) i
  pub formatted : AreFormatted f (rows_in (geometry_of f.disk) i.view)

-- the image of this name is attached, holds rows, and isn't sealed
abbrev pub IsUnsealedAs : File → List ℕ → Option (List Image) → Option Attachment → Type 0
IsUnsealedAs f name images attached =
    (attached ≡ Some (attachment_for f name)) × Holds (geometry_of f.disk) images attached × IfSome (held images attached) (IsFresh (geometry_of f.disk))

-- what is left by formatting all layers on a created image, before it is sealed: the image holds the rows of a format; or none was created, or it isn't sealed
abbrev pub Fills : File → List ℕ → FormatEnd → Option (List Image) → Option Attachment → Type 0
Fills f name end.Done images attached =
    (attached ≡ Some (attachment_for f name)) × Holds (geometry_of f.disk) images attached × IfSome (held images attached) (IsFilled f)
Fills f name end.Failed images attached =
    (attached ≡ None) ⊎ IsUnsealedAs f name images attached
Fills f name end.Memory images attached =
    (attached ≡ None) ⊎ IsUnsealedAs f name images attached

-- rows of a format of the file, which are what its disk may hold after the one entry that power was lost
pub record IsFormat (f : File) (rows : Grid) : Type 0 where
  pub formatted : AreFormatted f rows
  pub left : Left f (Lost ∷ []) rows

-- the bytes are the sealed image of the rows of a format
abbrev pub IsWhole : File → List ℕ → Type 0
IsWhole f bytes = (rows : Grid) × IsFormat f rows × (bytes ≡ image (geometry_of f.disk) true rows)

-- an image that is formatted: what is read of it and what is left when power fails are the same sealed image of the rows of a format
pub record IsFinished (f : File) (i : Image) : Type 0 where
  pub rows : Grid
  pub format : IsFormat f rows
  pub bytes : HasBytes (image (geometry_of f.disk) true rows) i

-- an image of which neither what is read nor what is left when power fails is sealed, unless it is the whole sealed image of the rows of a format
pub record IsUnfinished (f : File) (i : Image) : Type 0 where
  pub view : IsSealed (geometry_of f.disk) i.view → IsWhole f i.view
  pub stable : IsSealed (geometry_of f.disk) i.stable → IsWhole f i.stable

-- what sealing an image that holds the rows of a format makes of it; this takes no memory
abbrev pub FinishTurns : File → FormatEnd → Attachment → (before now : Image) → Type 0
FinishTurns f end.Done a before now = IsFinished f now
FinishTurns f end.Failed a before now = IsUnfinished f now
FinishTurns f end.Memory a before now = ⊥

-- this is so of the image of a name
abbrev pub OfImage : (Image → Type 0) → List ℕ → List Image → Type 0
OfImage P name told = (i : Image) × (image_of told name ≡ Some i) × P i

-- the image of the name is formatted, and no other is changed
abbrev pub IsFormattedOn : File → List ℕ → (before now : List Image) → Type 0
IsFormattedOn f name before now = OthersStay name before now × OfImage (IsFinished f) name now

-- The image of the name isn't sealed unless it is formatted, and no other is changed. Nothing is said of it where none was created, and then nothing is
-- attached.
abbrev pub IsLeft : File → List ℕ → Option Attachment → (before now : List Image) → Type 0
IsLeft f name attached before now = OthersStay name before now × ((attached ≡ None) ⊎ OfImage (IsUnfinished f) name now)

-- what formatting makes of the images, by how it ended
abbrev pub FormatsImage : File → List ℕ → FormatEnd → Option Attachment → (before now : List Image) → Type 0
FormatsImage f name end.Done attached = IsFormattedOn f name
FormatsImage f name end.Failed attached = IsLeft f name attached
FormatsImage f name end.Memory attached = IsLeft f name attached
