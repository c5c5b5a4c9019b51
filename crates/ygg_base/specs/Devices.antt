-- What devices hold, and what their calls do to it.
use Rattle.std.specs.Prelude.{
  ◌≡◌,
  ◌⊎◌,
  ℕ,
  ◌+◌,
  ◌-◌,
  ◌*◌,
  ◌/◌,
  ◌<◌,
  ◌^◌,
  min,
  List,
  [],
  ◌∷◌,
  ◌++◌,
  length,
  take,
  drop,
  replicate,
  Option,
  None,
  Some,
  IfSome,
  option_map,
  if◌then◌else◌,
}
use Rattle.std.specs.Str.{bytes_eq}
use Rattle.ygg_base.specs.declared.outside.Moved.{Moved}
use Rattle.ygg_base.specs.declared.outside.Moved.TheVariants as moved
use Rattle.ygg_base.specs.declared.device.Attach.{Attach}
use Rattle.ygg_base.specs.declared.device.Attach.TheVariants as attach
use Rattle.ygg_base.specs.declared.device.Made.{Made}
use Rattle.ygg_base.specs.declared.device.Made.TheVariants as made

-- an image by its name: its bytes as they are read, and those that are left when power fails; there are as many of both
pub record Image : Type 0 where
  pub name : List ℕ
  pub view : List ℕ
  pub stable : List ℕ

-- what is attached: the image of this name, seen as so many blocks of so many bytes
pub record Attachment : Type 0 where
  pub name : List ℕ
  pub size : ℕ
  pub count : ℕ

-- the image of that name, which is the first one
abbrev pub image_of : List Image → List ℕ → Option Image
image_of [] name = None
image_of (image ∷ images) name = if bytes_eq image.name name then Some image else image_of images name

-- how many blocks of a size so many bytes are, rounded down, and at most as many as four bytes can number
abbrev pub blocks_in : (size bytes : ℕ) → ℕ
blocks_in size bytes = min (bytes / size) (2 ^ 32 - 1)

-- the block at a place among bytes that are seen as blocks of a size
abbrev pub block_at : (size place : ℕ) → List ℕ → List ℕ
block_at size place bytes = take size (drop (place * size) bytes)

-- the bytes with this block at that place
abbrev pub with_block : (size place : ℕ) → (block bytes : List ℕ) → List ℕ
with_block size place block bytes = take (place * size) bytes ++ block ++ drop (place * size + size) bytes

-- an image of so many bytes, all of them zeros
abbrev pub zeros : List ℕ → ℕ → Image
zeros name bytes = record { name = name; view = replicate bytes 0; stable = replicate bytes 0 }

-- what is left of an image when power fails
abbrev pub lost : Image → Image
lost i = record { name = i.name; view = i.stable; stable = i.stable }

-- what is attached after an answer to `attach`: the image, as blocks of the size, or nothing
abbrev pub Attaches : List ℕ → (size : ℕ) → Attach → Option Attachment → Type 0
Attaches name size (attach.Attached bytes) now = now ≡ Some (record { name = name; size = size; count = blocks_in size bytes })
Attaches name size attach.Absent now = now ≡ None
Attaches name size attach.Failed now = now ≡ None
Attaches name size attach.Memory now = now ≡ None

-- an answer to `attach` for a name that has this image, or none
abbrev pub FitsImage : Option Image → Attach → Type 0
FitsImage stored (attach.Attached bytes) =
    (image : Image) × (stored ≡ Some image) × (length image.view ≡ bytes) × (length image.stable ≡ bytes)
FitsImage stored attach.Absent = stored ≡ None
FitsImage stored attach.Failed = Unit {0}
FitsImage stored attach.Memory = Unit {0}

-- what is attached after an answer to `create`: the new image, or nothing
abbrev pub Creates : List ℕ → (size count : ℕ) → Made → Option Attachment → Type 0
Creates name size count made.Done now = now ≡ Some (record { name = name; size = size; count = count })
Creates name size count made.Failed now = now ≡ None
Creates name size count made.Memory now = now ≡ None

-- no image is changed but that of this name
abbrev pub OthersStay : List ℕ → (before now : List Image) → Type 0
OthersStay name before now = (other : List ℕ) → (other ≡ name → ⊥) → image_of now other ≡ image_of before other

-- what `create` of an image of so many bytes makes of the images
abbrev pub IsCreated : List ℕ → (bytes : ℕ) → Made → (before now : List Image) → Type 0
IsCreated name bytes made.Done before now = OthersStay name before now × (image_of now name ≡ Some (zeros name bytes))
IsCreated name bytes made.Failed before now = OthersStay name before now
IsCreated name bytes made.Memory before now = OthersStay name before now

-- a device that tells its images goes on telling them, and they turn so; one that doesn't never begins to
abbrev pub Tells : ((before now : List Image) → Type 0) → Option (List Image) → Option (List Image) → Type 0
Tells Turn None now = now ≡ None
Tells Turn (Some before) now = (images : List Image) × (now ≡ Some images) × Turn before images

-- the image of this name turns so, and no other is changed
pub record ImageTurns (Turns : (before now : Image) → Type 0) (name : List ℕ) (before now : List Image) : Type 0 where
  pub old : Image
  pub new : Image
  pub was : image_of before name ≡ Some old
  pub is : image_of now name ≡ Some new
  pub turns : Turns old new
  pub others : OthersStay name before now

-- the attached image turns so, and no other is changed
abbrev pub AttachedTurns : (Turns : Attachment → (before now : Image) → Type 0) → Option Attachment → (before now : List Image) → Type 0
AttachedTurns Turns attached before now = IfSome attached (λ a. ImageTurns (Turns a) a.name before now)

-- bytes are as before, or have this block at that place
abbrev pub MayHave : (size place : ℕ) → (block before now : List ℕ) → Type 0
MayHave size place block before now = (now ≡ before) ⊎ (now ≡ with_block size place block before)

-- what a `write` of a block at a place makes of the attached image
abbrev pub Writes : (place : ℕ) → (block : List ℕ) → Moved → Attachment → (before now : Image) → Type 0
Writes place block moved.Done a before now =
    (now.view ≡ with_block a.size place block before.view) × MayHave a.size place block before.stable now.stable
Writes place block moved.Failed a before now =
    MayHave a.size place block before.view now.view × MayHave a.size place block before.stable now.stable

-- each block is as before, or as it is in these bytes
abbrev pub EachFrom : (size : ℕ) → (bytes before now : List ℕ) → Type 0
EachFrom size bytes before now =
    (length now ≡ length before)
    × ((place : ℕ) → (block_at size place now ≡ block_at size place before) ⊎ (block_at size place now ≡ block_at size place bytes))

-- what a `flush` makes of the attached image
abbrev pub Flushes : Moved → Attachment → (before now : Image) → Type 0
Flushes moved.Done a before now = (now.view ≡ before.view) × (now.stable ≡ before.view)
Flushes moved.Failed a before now = (now.view ≡ before.view) × EachFrom a.size before.view before.stable now.stable

-- what a `read` at a place gives of the attached image, where images are told
abbrev pub Reads : (place : ℕ) → Option (List Image) → Option Attachment → Moved → List ℕ → Type 0
Reads place images attached moved.Done bytes =
    IfSome images (λ told. IfSome attached (λ a. option_map (λ (image : Image). block_at a.size place image.view) (image_of told a.name) ≡ Some bytes))
Reads place images attached moved.Failed bytes = Unit {0}

-- an image is attached
abbrev pub IsAttached : Option Attachment → Type 0
IsAttached None = ⊥
IsAttached (Some a) = Unit {0}

-- an image is attached that has a block at this place, of so many bytes
abbrev pub IsBlock : Option Attachment → (place bytes : ℕ) → Type 0
IsBlock None place bytes = ⊥
IsBlock (Some a) place bytes = (place < a.count) × (bytes ≡ a.size)
