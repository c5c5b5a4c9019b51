-- Images that are accepted have as many bytes as they are to have.
use Rattle.std.proofs.Common.{◌≡◌, ℕ, ◌≤◌, List, length, ◌++◌, take, replicate, None, sym, ◌∙◌, arith}
use Rattle.std.proofs.lemmas.List.{length-take-le, take-take, take-append-le, take_all, length-append, length-replicate}
use Rattle.ygg_base.specs.declared.geometry.Geometry.{Geometry}
use Rattle.ygg_run_image.specs.Image.{block_bytes, image_bytes}
use Rattle.ygg_run_image.specs.Judged.{BeginsWith, IsHeaderJudged}

-- so many bytes that begin with a block, if there are as many as a block has
bytes_from : (block : List ℕ) → (count : ℕ) → List ℕ
bytes_from block count = take count (block ++ replicate count 0)

-- where every image of so many bytes that begins with this block is accepted by its header, these are as many bytes as it is to have
pub whole_by_header : (g : Geometry) (block : List ℕ) (count : ℕ) → length block ≡ block_bytes g →
    ((image : List ℕ) → BeginsWith g block count image → IsHeaderJudged g image None) → count ≡ image_bytes g
unfolding bytes_from
whole_by_header g block count sized judged =
    let enough : count ≤ length (block ++ replicate count 0) = omega (arith, length-append block (replicate count 0), length-replicate {A = ℕ} count 0) in
    let long : length (bytes_from block count) ≡ count = length-take-le count (block ++ replicate count 0) enough in
    let begins : BeginsWith g block count (bytes_from block count) = (
      long,
      λ fits. take-take (block_bytes g) count (block ++ replicate count 0) fits
          ∙ take-append-le (block_bytes g) block (replicate count 0) (omega (arith, sized))
          ∙ take_all (block_bytes g) block (omega (arith, sized)),
    ) in
    sym long ∙ (judged (bytes_from block count) begins).1.whole
