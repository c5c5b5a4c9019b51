-- Images by their first block.
use Rattle.std.proofs.Common.{◌≡◌, ℕ, ◌+◌, ◌≤◌, true, List, length, get_or, take, drop, Some, refl, sym, ap, ◌∙◌, arith}
use Rattle.std.specs.Prelude.{slice_get}
use Rattle.std.proofs.Math.Nat.{le-max_left, mul-le-mul_right}
use Rattle.std.proofs.lemmas.List.{drop-take, get_or-take, length-take-le, take-append-drop, take-append-le}
use Rattle.std.proofs.lemmas.Option.{slice_get-get_or}
use Rattle.ygg_base.specs.declared.geometry.Geometry.{Geometry}
use Rattle.ygg_run_image.specs.Image.{block_bytes, image, image_bytes, mark, sizes}
use Rattle.ygg_run_image.specs.Judged.{IsSealed, IsOfDisk}
use Rattle.ygg_run_image.specs.Laws.{ImagesAreAccepted}
use Rattle.ygg_run_image.proofs.Images.{image-blocks}

-- a sealed image of rows is accepted
pub images_are_accepted : ImagesAreAccepted
images_are_accepted g rows are =
    let blocks = image-blocks g rows are true in
    let least : 16 ≤ block_bytes g = le-max_left 16 _ in
    let long : block_bytes g ≤ length (image g true rows) = let all = mul-le-mul_right {m = 1} {n = g.rows + 1} (block_bytes g) (omega arith) in
    omega (arith, all, blocks.whole) in
    (record { long = long; begins = refl; sealed = refl }, record { sized = refl; whole = blocks.whole }, blocks.rows)

module _ (g : Geometry) (block bytes : List ℕ) (long : block_bytes g ≤ length bytes) (begins : take (block_bytes g) bytes ≡ block) where
  least : 16 ≤ block_bytes g
  least = le-max_left 16 _

  -- the first bytes of an image are those of its first block
  front : (count : ℕ) → count ≤ 16 → take count bytes ≡ take count block
  front count h =
      let fits : count ≤ length (take (block_bytes g) bytes) = omega (arith, h, least, length-take-le (block_bytes g) bytes long) in
      ap (take count) (sym (take-append-drop (block_bytes g) bytes))
      ∙ take-append-le count (take (block_bytes g) bytes) (drop (block_bytes g) bytes) fits
      ∙ ap (take count) begins

  -- so is each of them
  byte : slice_get bytes 13 ≡ slice_get block 13
  byte =
      let whole : length block ≡ block_bytes g = ap length (sym begins) ∙ length-take-le (block_bytes g) bytes long in
      let same : get_or bytes 13 0 ≡ get_or block 13 0 =
      sym (get_or-take (block_bytes g) bytes 13 0 (omega (arith, least))) ∙ ap (λ bs. get_or bs 13 0) begins in
      slice_get-get_or bytes 13 0 (omega (arith, least, long)) ∙ ap (λ b. Some b) same ∙ sym (slice_get-get_or block 13 0 (omega (arith, least, whole)))

  sizes-front : take 5 (drop 8 bytes) ≡ take 5 (drop 8 block)
  sizes-front = drop_take bytes ∙ ap (drop 8) (front 13 (omega arith)) ∙ sym (drop_take block) where
    drop_take : (bs : List ℕ) → take 5 (drop 8 bs) ≡ drop 8 (take 13 bs)
    drop_take bs = sym (drop-take 8 5 bs)

  pub sealed-by : (take 8 block ≡ mark) × (slice_get block 13 ≡ Some 1) → IsSealed g bytes
  sealed-by h = record { long = long; begins = front 8 (omega arith) ∙ h.0; sealed = byte ∙ h.1 }

  pub sized-by : take 5 (drop 8 block) ≡ sizes g → length bytes ≡ image_bytes g → IsOfDisk g bytes
  sized-by h whole = record { sized = sizes-front ∙ h; whole = whole }

  pub sealed-to : IsSealed g bytes → (take 8 block ≡ mark) × (slice_get block 13 ≡ Some 1)
  sealed-to s = (sym (front 8 (omega arith)) ∙ s.begins, sym byte ∙ s.sealed)

  pub sized-to : IsOfDisk g bytes → take 5 (drop 8 block) ≡ sizes g
  sized-to o = sym sizes-front ∙ o.sized
