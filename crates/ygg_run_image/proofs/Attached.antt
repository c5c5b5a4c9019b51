-- Images that are attached and accepted.
use Rattle.std.proofs.Common.{◌≡◌, ℕ, ◌+◌, ◌*◌, ◌/◌, ◌≤◌, ◌<◌, ◌-◌, ◌^◌, List, Option, Some}
use Rattle.std.proofs.Common.{None, Result, Ok, Err, OnOk, IfSome, ap, sym, ◌∙◌, arith, min}
use Rattle.std.proofs.Math.Nat.{le-max_left, min-eq_left}
use Rattle.std.proofs.lemmas.Nat.{div-mul-add}
use Rattle.ygg_base.specs.declared.geometry.Geometry.{Geometry}
use Rattle.ygg_base.specs.declared.device.Attach.TheVariants as attach
use Rattle.ygg_base.specs.Devices.{Attachment, Image, FitsImage, IsBlock, blocks_in, image_of}
use Rattle.ygg_value.specs.Shapes.{IsShape}
use Rattle.ygg_disk.specs.Size.{table_shape}
use Rattle.ygg_run_image.specs.Image.{block_bytes, image_bytes}
use Rattle.ygg_run_image.specs.Judged.{IsJudged}
use Rattle.ygg_run_image.specs.Mounting.{Accepts, Finds, IsSeenAs, IsShown, whole_image}
use Rattle.ygg_run_image.specs.declared.unmounted.Unmounted.{Unmounted}
use Rattle.ygg_run_image.specs.declared.unmounted.Unmounted.TheVariants.{Refused, Absent, DeviceFailed, Memory}

-- an image of so many bytes as it is to have is seen as a block more than the disk has rows
blocks_whole : (g : Geometry) → IsShape (table_shape g) → blocks_in (block_bytes g) (image_bytes g) ≡ g.rows + 1
blocks_whole g limits =
    let least : 16 ≤ block_bytes g = le-max_left 16 _ in
    let all : image_bytes g / block_bytes g ≡ g.rows + 1 =
    ap (λ n. n / block_bytes g) (let e : image_bytes g ≡ (g.rows + 1) * block_bytes g + 0 = omega arith in e)
    ∙ div-mul-add (g.rows + 1) (block_bytes g) 0 (omega (arith, least)) in
    let few : g.rows + 1 ≤ 2 ^ 32 - 1 = omega (arith, limits.0) in
    ap (λ n. min n (2 ^ 32 - 1)) all ∙ min-eq_left few

-- the block of a row in an image of so many bytes as it is to have
pub block_seen : (g : Geometry) (at : Option Attachment) (place bytes : ℕ) → IsShape (table_shape g) → IsSeenAs g (image_bytes g) at → place < g.rows →
    bytes ≡ block_bytes g → IsBlock at (place + 1) bytes
block_seen g None place bytes limits seen within sized = absurd seen
block_seen g (Some a) place bytes limits seen within sized =
    let all : blocks_in (block_bytes g) (image_bytes g) ≡ g.rows + 1 = blocks_whole g limits in
    let count : a.count ≡ g.rows + 1 = seen.1 ∙ all in
    (omega (arith, within, count), sized ∙ sym seen.0)

-- what is attached after an image was accepted
pub attached_whole : (g : Geometry) (name : List ℕ) (size bytes : ℕ) (at now : Option Attachment) (result : Result (Unit {0}) Unmounted) →
    IsShape (table_shape g) → size ≡ block_bytes g → at ≡ Some (record { name = name; size = size; count = blocks_in size bytes }) → now ≡ at →
    OnOk result (bytes ≡ image_bytes g) → OnOk result (now ≡ Some (whole_image g name))
attached_whole g name size bytes at now (Ok done) limits sized is still whole =
    let seen : ℕ → ℕ → Option Attachment = λ s c. Some (record { name = name; size = s; count = c }) in
    still ∙ is ∙ ap (λ s. seen s (blocks_in s bytes)) sized
    ∙ ap (seen (block_bytes g)) (ap (blocks_in (block_bytes g)) whole ∙ blocks_whole g limits)
attached_whole g name size bytes at now (Err e) limits sized is still whole = tt

-- what was judged is found under the name
found_so : (g : Geometry) (name : List ℕ) (told : List Image) (image : Image) → image_of told name ≡ Some image → (result : Result (Unit {0}) Unmounted) →
    Accepts (IsJudged g image.view) result → Finds g name told result
found_so g name told image is (Ok done) h = record { image = image; is = is; so = h }
found_so g name told image is (Err (Refused reason)) h = record { image = image; is = is; so = h }
found_so g name told image is (Err Absent) h = absurd h
found_so g name told image is (Err DeviceFailed) h = tt
found_so g name told image is (Err Memory) h = tt

-- what is found where an image was attached and judged
pub finds_attached : (g : Geometry) (name : List ℕ) (size bytes : ℕ) (images images' : Option (List Image)) (at : Option Attachment)
    (result : Result (Unit {0}) Unmounted) → at ≡ Some (record { name = name; size = size; count = blocks_in size bytes }) → images' ≡ images →
    IfSome images (λ told. FitsImage (image_of told name) (attach.Attached bytes)) →
    ((image : Image) → IsShown images' at bytes image → Accepts (IsJudged g image.view) result) → IfSome images (λ told. Finds g name told result)
finds_attached g name size bytes None images' at result is kept fits judged = tt
finds_attached g name size bytes (Some told) images' at result is kept (image, there, long, even) judged =
    found_so g name told image there result
    (judged image (record {
      told = told;
      at = record { name = name; size = size; count = blocks_in size bytes };
      tells = kept;
      attaches = is;
      is = there;
      long = long;
    }))
