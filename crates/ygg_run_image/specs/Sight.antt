-- What is seen of a ground over a device, and the disk that the device holds.
use Rattle.std.specs.Prelude.{◌≡◌, ℕ, ◌+◌, List, Option, Some, None, IfSome}
use Rattle.std.specs.Option.{option_map}
use Rattle.ygg_base.specs.declared.geometry.DiskKind.{DiskKind}
use Rattle.ygg_base.specs.declared.geometry.DiskKind.TheVariants.{Sync, Async}
use Rattle.ygg_base.specs.declared.geometry.Geometry.{Geometry}
use Rattle.ygg_base.specs.Devices.{Image, Attachment, image_of}
use Rattle.ygg_value.specs.Shapes.{IsShape}
use Rattle.ygg_disk.specs.Kinds.{Disk, model_of}
use Rattle.ygg_disk.specs.Size.{table_shape}
use Rattle.ygg_run_image.specs.Image.{block_bytes, rows_in}
use Rattle.ygg_run_image.specs.Laws.{AreBlocks}

-- what is seen of a ground over a device
pub record Sight : Type 0 where
  -- which reference to the device it has
  pub reference : ℕ
  -- the disk's kind and size
  pub geometry : Geometry
  -- the images of the device, where it tells them
  pub images : Option (List Image)
  -- what is attached there
  pub attached : Option Attachment
  -- how many faults there were
  pub faults : ℕ

-- there is an image of that name, and both its lists have as many bytes as an image of the disk and hold rows of it
pub record HoldsImage (g : Geometry) (told : List Image) (name : List ℕ) : Type 0 where
  pub image : Image
  pub is : image_of told name ≡ Some image
  pub view : AreBlocks g image.view
  pub stable : AreBlocks g image.stable

-- an image is attached that is seen as the blocks of the disk's image; where images are told, it is there and holds rows of the disk
pub record Holds (g : Geometry) (images : Option (List Image)) (attached : Option Attachment) : Type 0 where
  pub limits : IsShape (table_shape g)
  pub attachment : Attachment
  pub is : attached ≡ Some attachment
  pub size : attachment.size ≡ block_bytes g
  pub count : attachment.count ≡ g.rows + 1
  pub told : IfSome images (λ told. HoldsImage g told attachment.name)

-- the attached image, where images are told
abbrev pub held : Option (List Image) → Option Attachment → Option Image
held None attached = None
held (Some told) None = None
held (Some told) (Some a) = image_of told a.name

-- the state of a disk of this kind and size whose rows an image holds: as they are read, and as they are left when power fails
abbrev pub state_of : (kind : DiskKind) → Geometry → Image → (model_of kind).State
state_of Sync g image = rows_in g image.view
state_of Async g image = record { view = rows_in g image.view; stable = rows_in g image.stable }

-- the disk that is told: that of the attached image, where images are told
abbrev pub told_disk : Sight → Option Disk
told_disk s = option_map (λ (image : Image). record { kind = s.geometry.kind; state = state_of s.geometry.kind s.geometry image }) (held s.images s.attached)
