-- What a device in memory holds.
use Rattle.std.specs.Prelude.{◌≡◌, ℕ, zero, suc, ◌+◌, ◌*◌, ◌≤◌, ◌<◌, List, [], ◌∷◌}
use Rattle.std.specs.Prelude.{◌++◌, length, take, drop, map, Option, None, Some, option_map, slice_get, slice_set, All}
use Rattle.ygg_base.specs.declared.image.Stored.{Stored}
use Rattle.ygg_base.specs.declared.image.Place.{Place}
use Rattle.ygg_base.specs.Devices.{Image, Attachment, image_of, lost, blocks_in, AttachedTurns, OthersStay}

-- a stored image
abbrev pub image_at : Stored → Image
image_at s = record { name = s.name; view = s.view.items; stable = s.stable.items }

-- stored images
abbrev pub images_in : List Stored → List Image
images_in = map image_at

-- the image of this name, seen as it is there
abbrev pub seen_at : Place → List ℕ → Attachment
seen_at p name = record { name = name; size = p.size; count = p.count }

-- what is attached where the image at this place is
abbrev pub attachment_of : List Stored → Option Place → Option Attachment
attachment_of stored None = None
attachment_of stored (Some p) = option_map (λ (s : Stored). seen_at p s.name) (slice_get stored p.place)

-- as many bytes are read as are left when power fails
abbrev pub IsEven : Stored → Type 0
IsEven s = length s.stable.items ≡ length s.view.items

-- no image before this place has that name
abbrev pub NoneBefore : List Stored → List ℕ → ℕ → Type 0
NoneBefore stored name place = (before : ℕ) (s : Stored) → before < place → slice_get stored before ≡ Some s → s.name ≡ name → ⊥

-- the place of the first image of that name, or none where there is none
abbrev pub IsPlaceOf : List Stored → List ℕ → Option ℕ → Type 0
IsPlaceOf stored name (Some place) = (place < length stored) × (s : Stored) × (slice_get stored place ≡ Some s) × (s.name ≡ name) × NoneBefore stored name place
IsPlaceOf stored name None = NoneBefore stored name (length stored)

-- an image is the first one of its name, and has all the blocks that are seen there
abbrev pub IsSeen : List Stored → Place → Stored → Type 0
IsSeen stored p s = NoneBefore stored s.name p.place × (p.count * p.size ≤ length s.view.items)

-- at the place there is an image, and it is seen so
abbrev pub ArePlaced : List Stored → Place → Type 0
ArePlaced stored p = (p.place < length stored) × ((s : Stored) → slice_get stored p.place ≡ Some s → IsSeen stored p s)

-- the same where anything is attached
abbrev pub AreSeen : List Stored → Option Place → Type 0
AreSeen stored attached = (p : Place) → attached ≡ Some p → ArePlaced stored p

-- the image at the place turns so, with its name and as many bytes as before, and no other is touched
pub record IsTurned (Turns : Attachment → (before now : Image) → Type 0) (p : Place) (before now : List Stored) : Type 0 where
  pub old : Stored
  pub new : Stored
  pub stands : slice_get before p.place ≡ Some old
  pub is : now ≡ slice_set before p.place new
  pub named : new.name ≡ old.name
  pub many : length new.view.items ≡ length old.view.items
  pub even : IsEven new
  pub turns : Turns (seen_at p old.name) (image_at old) (image_at new)

-- the attached image turns so, and is seen as before
pub record AreTurned (Turns : Attachment → (before now : Image) → Type 0) (attached : Option Place) (before now : List Stored) : Type 0 where
  pub even : All IsEven now
  pub seen : AreSeen now attached
  pub still : attachment_of now attached ≡ attachment_of before attached
  pub turns : AttachedTurns Turns (attachment_of before attached) (images_in before) (images_in now)

-- the image of that name, which has so many bytes, is seen at this place as blocks of this size
pub record IsSeenAs (stored : List Stored) (name : List ℕ) (size : ℕ) (p : Place) (bytes : ℕ) : Type 0 where
  pub image : Image
  pub is : image_of (images_in stored) name ≡ Some image
  pub viewed : length image.view ≡ bytes
  pub even : length image.stable ≡ bytes
  pub placed : ArePlaced stored p
  pub attached : attachment_of stored (Some p) ≡ Some (record { name = name; size = size; count = blocks_in size bytes })

-- an image stands at this place, which is the first one of its name, and no other name has another image than before
pub record IsAdded (before : List Stored) (new : Stored) (now : List Stored) (place : ℕ) : Type 0 where
  pub even : All IsEven now
  pub stands : slice_get now place ≡ Some new
  pub first : NoneBefore now new.name place
  pub others : OthersStay new.name (images_in before) (images_in now)

-- the images that so many of the first ones have lost power
abbrev pub lost_first : ℕ → List Image → List Image
lost_first zero images = images
lost_first (suc count) [] = []
lost_first (suc count) (image ∷ images) = lost image ∷ lost_first count images

-- what is stored where so many of the first ones have lost power: the images have, there are as many bytes as before, and all are even
pub record HaveLost (count : ℕ) (before now : List Stored) : Type 0 where
  pub images : images_in now ≡ lost_first count (images_in before)
  pub even : All IsEven now

-- the bytes with these in their midst, from a place on
abbrev pub put_at : (start : ℕ) → (some bytes : List ℕ) → List ℕ
put_at start some bytes = take start bytes ++ some ++ drop (start + length some) bytes
