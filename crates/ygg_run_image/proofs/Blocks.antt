-- Bytes that are seen as blocks, of which one is written.
use Rattle.std.proofs.Common.{◌≡◌, ℕ, suc, ◌+◌, ◌*◌, ◌<◌, ◌≤◌, List, ◌++◌, length, get_or, set, take, drop, sym, ap, ◌∙◌, arith}
use Rattle.std.proofs.Math.Nat.{zero-mul, suc-mul, mul-le-mul_right}
use Rattle.std.proofs.Math.Seq.{take-add}
use Rattle.std.proofs.lemmas.List.{append_assoc, drop-drop, drop_at, length-append, length-drop, length-take-le}
use Rattle.std.specs.Simd.{first_chunks}
use Rattle.ygg_base.specs.Devices.{block_at, with_block}
use Rattle.ygg_value.proofs.Rows.{get_or-first_chunks, first_chunks-write}

module _ (size count : ℕ) (bytes : List ℕ) (long : length bytes ≡ (count + 1) * size) where
  -- the bytes of the blocks after the first
  abbrev pub rest : List ℕ
  rest = drop size bytes

  -- they are as many
  pub length-rest : length (drop size bytes) ≡ count * size
  length-rest = let more = suc-mul count size in omega (arith, length-drop size bytes, long, more)

  -- a block after the first is a chunk of them
  pub block-chunk : (place : ℕ) (d : List ℕ) → place < count → block_at size (place + 1) bytes ≡ get_or (first_chunks size count (drop size bytes)) place d
  block-chunk place d h =
      let start : size + place * size ≡ (place + 1) * size = let more = suc-mul place size in omega (arith, more) in
      sym (get_or-first_chunks size count rest place d h ∙ ap (take size) (drop-drop (place * size) size bytes ∙ ap (λ n. drop n bytes) start))

  -- a block that is written fits
  block_fits : (place : ℕ) → place < count + 1 → place * size + size ≤ length bytes
  block_fits place h =
      let most = mul-le-mul_right {m = suc place} {n = count + 1} size h in
      let more = suc-mul place size in
      omega (arith, most, more, long)

  module _ (block : List ℕ) (is : length block ≡ size) where
    -- there are as many bytes as before
    pub length-written : (place : ℕ) → place < count + 1 → length (with_block size place block bytes) ≡ length bytes
    length-written place h =
        let fits = block_fits place h in
        let first = length-append (take (place * size) bytes ++ block) (drop (place * size + size) bytes) in
        let second = length-append (take (place * size) bytes) block in
        let third = length-take-le (place * size) bytes (omega (arith, fits)) in
        let last = length-drop (place * size + size) bytes in
        omega (arith, first, second, third, last, fits, is)

    -- the first block makes no difference to those after it
    pub rest-header : drop size (with_block size 0 block bytes) ≡ drop size bytes
    rest-header =
        let start : 0 * size + size ≡ size = let none = zero-mul size in omega (arith, none) in
        let front : take (0 * size) bytes ++ block ≡ block = ap (λ n. take n bytes ++ block) (zero-mul size) in
        ap (λ front. drop size (front ++ drop (0 * size + size) bytes)) front
        ∙ drop_at block (drop (0 * size + size) bytes) size is
        ∙ ap (λ n. drop n bytes) start

    -- a block after the first that is written lies among them
    rest-written : (at : ℕ) → at < count →
        drop size (with_block size (at + 1) block bytes) ≡ take (at * size) rest ++ (block ++ drop size (drop (at * size) rest))
    rest-written at h =
        let start : (at + 1) * size ≡ size + at * size = let more = suc-mul at size in omega (arith, more) in
        let tail = drop ((at + 1) * size + size) bytes in
        let one : length (take size bytes) ≡ size = length-take-le size bytes
        (let f = block_fits 0 (omega arith) in let none = zero-mul size in omega (arith, f, none)) in
        let front : take ((at + 1) * size) bytes ≡ take size bytes ++ take (at * size) rest = ap (λ n. take n bytes) start ∙ take-add size (at * size) bytes in
        let behind : tail ≡ drop size (drop (at * size) rest) =
        ap (λ n. drop (n + size) bytes) start
        ∙ sym (drop-drop size (size + at * size) bytes)
        ∙ ap (drop size) (sym (drop-drop (at * size) size bytes)) in
        let whole : take ((at + 1) * size) bytes ++ block ++ tail ≡ take size bytes ++ (take (at * size) rest ++ (block ++ tail)) =
        ap (λ f. f ++ block ++ tail) front
        ∙ append_assoc (take size bytes ++ take (at * size) rest) block tail
        ∙ append_assoc (take size bytes) (take (at * size) rest) (block ++ tail) in
        ap (drop size) whole
        ∙ drop_at (take size bytes) (take (at * size) rest ++ (block ++ tail)) size one
        ∙ ap (λ t. take (at * size) rest ++ (block ++ t)) behind

    -- so it is written among the chunks
    pub chunks-written : (at : ℕ) → at < count →
        first_chunks size count (drop size (with_block size (at + 1) block bytes)) ≡ set (first_chunks size count (drop size bytes)) at block
    chunks-written at h = ap (first_chunks size count) (rest-written at h) ∙ first_chunks-write size count rest at block h length-rest is
