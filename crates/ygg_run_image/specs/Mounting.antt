-- What mounting an image comes to.
use Rattle.std.specs.Prelude.{◌≡◌, ◌⊎◌, ℕ, ◌+◌, List, length, Option, Some, None, Result, Ok, Err}
use Rattle.ygg_base.specs.declared.geometry.Geometry.{Geometry}
use Rattle.ygg_base.specs.declared.outside.Moved.{Moved}
use Rattle.ygg_base.specs.declared.outside.Moved.TheVariants as moved
use Rattle.ygg_base.specs.Devices.{Image, Attachment, ImageTurns, Flushes, blocks_in, image_of}
use Rattle.ygg_run_image.specs.Image.{block_bytes}
use Rattle.ygg_run_image.specs.Judged.{HoldsRows, IsJudged, IsRowBlock}
use Rattle.ygg_run_image.specs.declared.reason.ImageReason.{ImageReason}
use Rattle.ygg_run_image.specs.declared.reason.ImageReason.TheVariants.{Unsealed, OtherDisk, SpareBits}
use Rattle.ygg_run_image.specs.declared.unmounted.Unmounted.{Unmounted}
use Rattle.ygg_run_image.specs.declared.unmounted.Unmounted.TheVariants.{Refused, Absent, DeviceFailed, Memory}

-- the image of that name, seen as the blocks of an image of a disk of this size
abbrev pub whole_image : Geometry → (name : List ℕ) → Attachment
whole_image g name = record { name = name; size = block_bytes g; count = g.rows + 1 }

-- an image of so many bytes is attached, seen as blocks as large as those of an image of a disk of this size
abbrev pub IsSeenAs : Geometry → (bytes : ℕ) → Option Attachment → Type 0
IsSeenAs g bytes None = ⊥
IsSeenAs g bytes (Some a) = (a.size ≡ block_bytes g) × (a.count ≡ blocks_in (block_bytes g) bytes)

-- the device tells its images, and this one of so many bytes is attached
pub record IsShown (images : Option (List Image)) (attached : Option Attachment) (bytes : ℕ) (image : Image) : Type 0 where
  pub told : List Image
  pub at : Attachment
  pub tells : images ≡ Some told
  pub attaches : attached ≡ Some at
  pub is : image_of told at.name ≡ Some image
  pub long : length image.view ≡ bytes

-- a block is judged by whether it is that of a row
abbrev pub IsRowJudged : Geometry → (block : List ℕ) → Option ImageReason → Type 0
IsRowJudged g block (Some Unsealed) = ⊥
IsRowJudged g block (Some OtherDisk) = ⊥
IsRowJudged g block (Some SpareBits) = IsRowBlock g block → ⊥
IsRowJudged g block None = IsRowBlock g block

-- bytes are judged by whether each block after the first is that of a row
abbrev pub AreRowsJudged : Geometry → (bytes : List ℕ) → Option ImageReason → Type 0
AreRowsJudged g bytes (Some Unsealed) = ⊥
AreRowsJudged g bytes (Some OtherDisk) = ⊥
AreRowsJudged g bytes (Some SpareBits) = HoldsRows g bytes → ⊥
AreRowsJudged g bytes None = HoldsRows g bytes

-- what was judged is accepted, or refused for a reason; nothing is said where the device failed or no memory was left
abbrev pub Accepts : (Judged : Option ImageReason → Type 0) → Result (Unit {0}) Unmounted → Type 0
Accepts Judged (Ok done) = Judged None
Accepts Judged (Err (Refused reason)) = Judged (Some reason)
Accepts Judged (Err Absent) = ⊥
Accepts Judged (Err DeviceFailed) = Unit {0}
Accepts Judged (Err Memory) = Unit {0}

-- an image of this name was judged so
pub record IsJudgedOf (g : Geometry) (name : List ℕ) (images : List Image) (judged : Option ImageReason) : Type 0 where
  pub image : Image
  pub is : image_of images name ≡ Some image
  pub so : IsJudged g image.view judged

-- the image of this name is accepted, or refused for a reason, or there is none; nothing is said where the device failed or no memory was left
abbrev pub Finds : Geometry → (name : List ℕ) → (images : List Image) → Result (Unit {0}) Unmounted → Type 0
Finds g name images (Ok done) = IsJudgedOf g name images None
Finds g name images (Err (Refused reason)) = IsJudgedOf g name images (Some reason)
Finds g name images (Err Absent) = image_of images name ≡ None
Finds g name images (Err DeviceFailed) = Unit {0}
Finds g name images (Err Memory) = Unit {0}

-- an image was accepted, and then flushed, which ended so
abbrev pub IsFlushed : Geometry → Moved → (name : List ℕ) → (before now : Image) → Type 0
IsFlushed g ended name before now = IsJudged g before.view None × Flushes ended (whole_image g name) before now

-- What a mounting that ended so makes of the images: where the image is accepted it is flushed, which may fail; else none is changed.
abbrev pub Mounts : Geometry → (name : List ℕ) → Result (Unit {0}) Unmounted → (before now : List Image) → Type 0
Mounts g name (Ok done) before now = ImageTurns (IsFlushed g moved.Done name) name before now
Mounts g name (Err (Refused reason)) before now = IsJudgedOf g name before (Some reason) × (now ≡ before)
Mounts g name (Err Absent) before now = (image_of before name ≡ None) × (now ≡ before)
Mounts g name (Err DeviceFailed) before now = (now ≡ before) ⊎ ImageTurns (IsFlushed g moved.Failed name) name before now
Mounts g name (Err Memory) before now = now ≡ before
