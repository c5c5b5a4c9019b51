-- What the device calls of sealing make of an image.
use Rattle.std.proofs.Common.{◌≡◌, ◌⊎◌, ℕ, zero, suc, ◌+◌, ◌*◌, ◌<◌, ◌≤◌, true, List, ◌++◌, length, get_or, take, drop, inl, inr, sym, ap, ◌∙◌, subst, arith}
use Rattle.std.specs.Simd.{first_chunks}
use Rattle.std.proofs.Math.Nat.{zero-mul, suc-mul, le-max_left}
use Rattle.std.proofs.Math.Seq.{take-append_seam}
use Rattle.std.proofs.lemmas.List.{drop-drop, get_or-take, get_or-replicate, same_lists}
use Rattle.ygg_base.specs.declared.geometry.Geometry.{Geometry}
use Rattle.ygg_base.specs.declared.outside.Moved.{Moved}
use Rattle.ygg_base.specs.declared.outside.Moved.TheVariants.{Done, Failed}
use Rattle.ygg_run_image.specs.ygg_base.Devices.{Image, Attachment, Flushes, MayHave, Writes, block_at, with_block}
use Rattle.ygg_value.proofs.Rows.{get_or-first_chunks, length-first_chunks, same_from_chunks}
use Rattle.ygg_run_image.specs.Image.{block_bytes, header, image, rows_in}
use Rattle.ygg_run_image.specs.Judged.{IsSealed}
use Rattle.ygg_run_image.specs.Laws.{AreBlocks}
use Rattle.ygg_run_image.proofs.Blocks.{length-written, rest-header}
use Rattle.ygg_run_image.proofs.Images.{length-header, header-blocks, blocks-image}
use Rattle.ygg_run_image.specs.Sealing.{IsUnsealed, IsFresh, sealed_of, MayBe, HeaderTurns, SealedOnlyAs, SealTurns}
use Rattle.ygg_run_image.proofs.Turns.{Attaches}

-- bytes that begin with zeros aren't sealed
pub unsealed : (g : Geometry) (bytes : List ℕ) → IsUnsealed g bytes → IsSealed g bytes → ⊥
unsealed g bytes zeros sealed =
    let least : 16 ≤ block_bytes g = le-max_left 16 _ in
    let first : get_or bytes 0 0 ≡ 89 = sym (get_or-take 8 bytes 0 0 (omega arith)) ∙ ap (λ (bs : List ℕ). get_or bs 0 0) sealed.begins in
    let none : get_or bytes 0 0 ≡ 0 =
    sym (get_or-take (block_bytes g) bytes 0 0 (omega arith)) ∙ ap (λ (bs : List ℕ). get_or bs 0 0) zeros
    ∙ get_or-replicate (block_bytes g) 0 0 0 (omega arith) in
    absurd (omega arith)

-- the first block of bytes
pub first_block : (size : ℕ) (bytes : List ℕ) → block_at size 0 bytes ≡ take size bytes
first_block size bytes = ap (λ (n : ℕ). take size (drop n bytes)) (zero-mul size)

-- as many bytes with the same blocks are the same
same_blocks : (size count : ℕ) (xs ys : List ℕ) → length xs ≡ count * size → length ys ≡ count * size →
    ((place : ℕ) → block_at size place xs ≡ block_at size place ys) → xs ≡ ys
same_blocks size count xs ys p q same =
    same_from_chunks size count xs ys p q
    (same_lists (first_chunks size count xs) (first_chunks size count ys) (length-first_chunks size count xs ∙ sym (length-first_chunks size count ys))
    (λ k d h.
    let less : k < count = omega (arith, h, length-first_chunks size count xs) in
    get_or-first_chunks size count xs k d less ∙ same k ∙ sym (get_or-first_chunks size count ys k d less)))

-- a block after the first, where the first is written
block_behind : (size count : ℕ) (bytes block : List ℕ) → length bytes ≡ (count + 1) * size → length block ≡ size → (place : ℕ) →
    block_at size (suc place) (with_block size 0 block bytes) ≡ block_at size (suc place) bytes
block_behind size count bytes block long is place =
    behind (with_block size 0 block bytes) ∙ ap (λ (bs : List ℕ). take size (drop (place * size) bs)) (rest-header size count bytes long block is)
    ∙ sym (behind bytes)
  where
    behind : (bs : List ℕ) → block_at size (suc place) bs ≡ take size (drop (place * size) (drop size bs))
    behind bs =
        let start : suc place * size ≡ size + place * size = let more = suc-mul place size in omega (arith, more) in
        ap (λ (n : ℕ). take size (drop n bs)) start ∙ ap (take size) (sym (drop-drop (place * size) size bs))

-- bytes of which each block is one of others, or of these with the first block written, are either
one_of : (size count : ℕ) (bytes block now : List ℕ) → length bytes ≡ (count + 1) * size → length block ≡ size → length now ≡ length bytes →
    ((place : ℕ) → (block_at size place now ≡ block_at size place bytes) ⊎ (block_at size place now ≡ block_at size place (with_block size 0 block bytes))) →
    MayBe (with_block size 0 block bytes) bytes now
one_of size count bytes block now long is many each = by_first (each 0)
  where
    behind : (place : ℕ) → block_at size (suc place) now ≡ block_at size (suc place) bytes
    behind place = either (each (suc place))
      where
        either : (block_at size (suc place) now ≡ block_at size (suc place) bytes)
            ⊎ (block_at size (suc place) now ≡ block_at size (suc place) (with_block size 0 block bytes)) →
            block_at size (suc place) now ≡ block_at size (suc place) bytes
        either (inl h) = h
        either (inr h) = h ∙ block_behind size count bytes block long is place

    by_first : (block_at size 0 now ≡ block_at size 0 bytes) ⊎ (block_at size 0 now ≡ block_at size 0 (with_block size 0 block bytes)) →
        MayBe (with_block size 0 block bytes) bytes now
    by_first (inl h) = inl (same_blocks size (count + 1) now bytes (many ∙ long) long at)
      where
        at : (place : ℕ) → block_at size place now ≡ block_at size place bytes
        at zero = h
        at (suc place) = behind place
    by_first (inr h) =
        inr (same_blocks size (count + 1) now (with_block size 0 block bytes) (many ∙ long)
        (length-written size count bytes long block is 0 (omega arith) ∙ long) at)
      where
        at : (place : ℕ) → block_at size place now ≡ block_at size place (with_block size 0 block bytes)
        at zero = h
        at (suc place) = behind place ∙ sym (block_behind size count bytes block long is place)

-- the header is written before rows
pub header_written : (g : Geometry) (bytes : List ℕ) → AreBlocks g bytes → with_block (block_bytes g) 0 (header g true) bytes ≡ image g true (rows_in g bytes)
header_written g bytes are =
    let size = block_bytes g in
    let now = with_block size 0 (header g true) bytes in
    let (blocks, same) = header-blocks g bytes are (header g true) (length-header g true) in
    let none = zero-mul size in
    let begins : take size now ≡ header g true =
    ap (λ (n : ℕ). take size (take n bytes ++ header g true ++ drop (n + size) bytes)) none
    ∙ take_at (header g true) (drop (0 + size) bytes) size (length-header g true) in
    blocks-image g now blocks true begins ∙ ap (image g true) same
  where
    take_at : (xs ys : List ℕ) (n : ℕ) → length xs ≡ n → take n (xs ++ ys) ≡ xs
    take_at xs ys n is = ap (λ (k : ℕ). take k (xs ++ ys)) (sym is) ∙ take-append_seam xs ys

-- the image has as many bytes as those of which the first block is written
long_as : (g : Geometry) (bytes : List ℕ) → AreBlocks g bytes → length bytes ≡ (g.rows + 1) * block_bytes g
long_as g bytes are = are.whole

-- the same is read of it as is left when power fails
abbrev pub IsEven : Image → Type 0
IsEven i = i.stable ≡ i.view

module _ (g : Geometry) (a : Attachment) (i : Image) (at : Attaches g IsEven a i) where
  sized : (size : ℕ) → size ≡ block_bytes g → (block : List ℕ) → block ≡ header g true → with_block size 0 block i.view ≡ sealed_of g i
  sized size is block header_is =
      ap (λ (n : ℕ). with_block n 0 block i.view) is ∙ ap (λ (b : List ℕ). with_block (block_bytes g) 0 b i.view) header_is ∙ header_written g i.view at.view

  -- the write of the header failed
  pub header_failed : (block : List ℕ) → block ≡ header g true → (j : Image) → Writes 0 block Failed a i j → HeaderTurns g Failed a i j
  header_failed block is j (view, stable) = (
    may view,
    may (subst (λ (bs : List ℕ). MayHave a.size 0 block bs j.stable) at.so stable),
  )
    where
      may : {bytes : List ℕ} → MayHave a.size 0 block i.view bytes → MayBe (sealed_of g i) i.view bytes
      may (inl h) = inl h
      may (inr h) = inr (h ∙ sized a.size at.size block is)

  -- it was done, and then the flush was or failed
  pub header_done : (block : List ℕ) → block ≡ header g true → (m : Moved) (j k : Image) → Writes 0 block Done a i j → Flushes m a j k → HeaderTurns g m a i k
  header_done block is Done j k (view, stable) (same, kept) =
      let whole : j.view ≡ sealed_of g i = view ∙ sized a.size at.size block is in
      (same ∙ whole, kept ∙ whole)
  header_done block is Failed j k (view, stable) (same, (many, each)) =
      let whole : j.view ≡ sealed_of g i = view ∙ sized a.size at.size block is in
      (inr (same ∙ whole), kept (subst (λ (bs : List ℕ). MayHave a.size 0 block bs j.stable) at.so stable))
    where
      kept : MayHave a.size 0 block i.view j.stable → MayBe (sealed_of g i) i.view k.stable
      kept h = from_stable h
        where
          block_is : length block ≡ a.size
          block_is = ap length is ∙ length-header g true ∙ sym at.size

          view_is : length i.view ≡ (g.rows + 1) * a.size
          view_is = at.view.whole ∙ ap (λ (n : ℕ). (g.rows + 1) * n) (sym at.size)

          each_of : (place : ℕ) → MayHave a.size 0 block i.view j.stable →
              (block_at a.size place k.stable ≡ block_at a.size place j.stable) ⊎ (block_at a.size place k.stable ≡ block_at a.size place j.view) →
              (block_at a.size place k.stable ≡ block_at a.size place i.view)
              ⊎ (block_at a.size place k.stable ≡ block_at a.size place (with_block a.size 0 block i.view))
          each_of place (inl h) (inl e) = inl (e ∙ ap (block_at a.size place) h)
          each_of place (inr h) (inl e) = inr (e ∙ ap (block_at a.size place) h)
          each_of place h (inr e) = inr (e ∙ ap (block_at a.size place) view)

          long_now : MayHave a.size 0 block i.view j.stable → length k.stable ≡ length i.view
          long_now (inl h) = many ∙ ap length h
          long_now (inr h) = many ∙ ap length h ∙ length-written a.size g.rows i.view view_is block block_is 0 (omega arith)

          shown : MayBe (with_block a.size 0 block i.view) i.view k.stable → MayBe (sealed_of g i) i.view k.stable
          shown (inl h) = inl h
          shown (inr h) = inr (h ∙ sized a.size at.size block is)

          from_stable : MayHave a.size 0 block i.view j.stable → MayBe (sealed_of g i) i.view k.stable
          from_stable h =
              shown (one_of a.size g.rows i.view block k.stable view_is block_is (long_now h) (λ (place : ℕ). each_of place h (each place)))

-- the flush before it
module _ (g : Geometry) (a : Attachment) (i : Image) (at : Attaches g (IsFresh g) a i) where
  -- it was done: the image isn't sealed still, and all of it stays
  pub flush_done : (j : Image) → Flushes Done a i j → AreBlocks g j.view × AreBlocks g j.stable × IsEven j
  flush_done j (same, kept) = (
    subst (AreBlocks g) (sym same) at.view,
    subst (AreBlocks g) (sym kept) at.view,
    kept ∙ sym same,
  )

  -- it failed
  pub flush_failed : (j : Image) → Flushes Failed a i j → SealTurns g Failed a i j
  flush_failed j (same, (many, each)) = (
    (λ sealed. absurd (unsealed g j.view (ap (take (block_bytes g)) same ∙ at.so.view) sealed)),
    (λ sealed. absurd (unsealed g j.stable (first (each 0)) sealed)),
  )
    where
      block : (bytes : List ℕ) → block_at a.size 0 bytes ≡ take (block_bytes g) bytes
      block bytes = first_block a.size bytes ∙ ap (λ (n : ℕ). take n bytes) at.size

      first : (block_at a.size 0 j.stable ≡ block_at a.size 0 i.stable) ⊎ (block_at a.size 0 j.stable ≡ block_at a.size 0 i.view) → IsUnsealed g j.stable
      first (inl h) = sym (block j.stable) ∙ h ∙ block i.stable ∙ at.so.stable
      first (inr h) = sym (block j.stable) ∙ h ∙ block i.view ∙ at.so.view

  -- the header's turn after it
  pub then_header : (m : Moved) (j k : Image) → Flushes Done a i j → HeaderTurns g m a j k → SealTurns g m a i k
  then_header Done j k (same, kept) (view, stable) =
      let rows = ap (λ (bs : List ℕ). image g true (rows_in g bs)) same in (view ∙ rows, stable ∙ rows)
  then_header Failed j k (same, kept) (view, stable) = (only k.view view, only k.stable stable)
    where
      only : (bytes : List ℕ) → MayBe (sealed_of g j) j.view bytes → SealedOnlyAs g (sealed_of g i) bytes
      only bytes (inl h) sealed = absurd (unsealed g bytes (ap (take (block_bytes g)) (h ∙ same) ∙ at.so.view) sealed)
      only bytes (inr h) sealed = h ∙ ap (λ (bs : List ℕ). image g true (rows_in g bs)) same
