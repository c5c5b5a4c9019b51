-- Images and the rows that they hold.
use Rattle.std.proofs.Common.{◌≡◌, ℕ, zero, suc, ◌+◌, ◌-◌, ◌*◌, ◌<◌, ◌≤◌, Bool, List, [], ◌∷◌}
use Rattle.std.proofs.Common.{◌++◌, length, set, take, drop, replicate, map, All, refl, sym, ap, subst, ◌∙◌, arith}
use Rattle.std.proofs.Math.Nat.{le-max_left, suc-mul}
use Rattle.std.proofs.lemmas.List.{take-append-drop, drop_at, drop-replicate, length-append, length-map, length-replicate, map-set}
use Rattle.std.proofs.lemmas.List.Elements.{All-map, All-replicate}
use Rattle.std.specs.List.{flat_map}
use Rattle.std.specs.Simd.{first_chunks}
use Rattle.ygg_base.specs.declared.geometry.Geometry.{Geometry}
use Rattle.ygg_base.specs.Devices.{with_block}
use Rattle.ygg_value.specs.Number.{Grid}
use Rattle.ygg_value.specs.Shapes.{IsShape}
use Rattle.ygg_value.specs.Values.{table_write}
use Rattle.ygg_value.proofs.Rows.{length-first_chunks, first_chunks-replicate, same_from_chunks}
use Rattle.ygg_disk.specs.Size.{table_shape, zeros_of}
use Rattle.ygg_run_image.specs.Image.{block_bytes, header, image, image_bytes, row_block, rows_in, words_in}
use Rattle.ygg_run_image.specs.Judged.{AreWords, HoldsRows, IsRowBlock}
use Rattle.ygg_run_image.specs.Laws.{AreRows, AreBlocks, ImagesHoldTheirRows, ImagesAreBlocks}
use Rattle.ygg_run_image.specs.Laws.{BlocksAreImages, HeadersHoldNoRows, WrittenRowsAreHeld, ZerosHoldZeros}
use Rattle.ygg_run_image.proofs.Blocks.{length-rest, block-chunk, length-written, rest-header, chunks-written}
use Rattle.ygg_run_image.proofs.Pieces.{length-pieces, chunks-pieces}
use Rattle.ygg_run_image.proofs.ImageRows.{length-row_block, words-row_block, row_block-words, words-are, zeros-are, zeros-block}

-- the header is as long as a block
pub length-header : (g : Geometry) (sealed : Bool) → length (header g sealed) ≡ block_bytes g
length-header g sealed =
    let least : 16 ≤ block_bytes g = le-max_left 16 _ in
    let zeros = length-replicate {A = ℕ} (block_bytes g - 14) 0 in
    omega (arith, least, zeros)

module _ (g : Geometry) where
  -- the chunks of the blocks after the first
  abbrev pub chunks : List ℕ → List (List ℕ)
  chunks bytes = first_chunks (block_bytes g) g.rows (drop (block_bytes g) bytes)

  -- blocks of rows are chunks of rows
  pub held-chunks : (bytes : List ℕ) → length bytes ≡ image_bytes g → HoldsRows g bytes → All (IsRowBlock g) (chunks bytes)
  held-chunks bytes long holds k d h =
      let within : k < g.rows = omega (arith, h, length-first_chunks (block_bytes g) g.rows (drop (block_bytes g) bytes)) in
      subst (IsRowBlock g) (block-chunk (block_bytes g) g.rows bytes long k d within) (holds k within)

  -- and the other way round
  pub chunks-held : (bytes : List ℕ) → length bytes ≡ image_bytes g → All (IsRowBlock g) (chunks bytes) → HoldsRows g bytes
  chunks-held bytes long all place h =
      subst (IsRowBlock g) (sym (block-chunk (block_bytes g) g.rows bytes long place [] h))
      (all place [] (omega (arith, h, length-first_chunks (block_bytes g) g.rows (drop (block_bytes g) bytes))))

  -- chunks of rows are the blocks of what they hold
  blocks-words : (bytes : List ℕ) → All (IsRowBlock g) (chunks bytes) → map (row_block g) (map (words_in g) (chunks bytes)) ≡ chunks bytes
  blocks-words bytes all = each (chunks bytes) all where
    each : (cs : List (List ℕ)) → All (IsRowBlock g) cs → map (row_block g) (map (words_in g) cs) ≡ cs
    each [] h = refl
    each (c ∷ cs) h =
        ap (λ d. d ∷ map (row_block g) (map (words_in g) cs)) (row_block-words g c (h 0 c (omega arith)))
        ∙ ap (λ ds. c ∷ ds) (each cs (λ k d lt. h (suc k) d (omega arith)))

  -- rows read back from their blocks
  words-blocks : (rows : List (List ℕ)) → All (AreWords g) rows → map (words_in g) (map (row_block g) rows) ≡ rows
  words-blocks [] h = refl
  words-blocks (r ∷ rs) h =
      ap (λ d. d ∷ map (words_in g) (map (row_block g) rs)) (words-row_block g r (h 0 r (omega arith)))
      ∙ ap (λ ds. r ∷ ds) (words-blocks rs (λ k d lt. h (suc k) d (omega arith)))

  even : (rows : List (List ℕ)) → All (AreWords g) rows → All (λ r. length (row_block g r) ≡ block_bytes g) rows
  even rows h k d lt = length-row_block g _ (h k d lt).many

  -- the rows that bytes hold are of the disk's size
  pub rows-are : IsShape (table_shape g) → (bytes : List ℕ) → AreRows g (rows_in g bytes)
  rows-are limits bytes = record {
    limits = limits;
    width = refl;
    words = refl;
    many = length-map (chunks bytes) (words_in g) ∙ length-first_chunks (block_bytes g) g.rows (drop (block_bytes g) bytes);
    each = All-map (AreWords g) (words_in g) (chunks bytes) (λ k d h. words-are g _);
  }

  module _ (rows : Grid) (are : AreRows g rows) where
    abbrev pub blocks : List ℕ
    blocks = flat_map (row_block g) rows.rows

    length-blocks : length blocks ≡ g.rows * block_bytes g
    length-blocks = length-pieces (row_block g) (block_bytes g) rows.rows (even rows.rows are.each) ∙ ap (λ n. n * block_bytes g) are.many

    cut : first_chunks (block_bytes g) g.rows blocks ≡ map (row_block g) rows.rows
    cut =
        let padded : blocks ++ [] ≡ blocks = append_nil blocks in
        ap (first_chunks (block_bytes g) g.rows) (sym padded)
        ∙ ap (λ n. first_chunks (block_bytes g) n (blocks ++ [])) (sym are.many)
        ∙ chunks-pieces (row_block g) (block_bytes g) rows.rows [] (even rows.rows are.each)
      where
        append_nil : (xs : List ℕ) → xs ++ [] ≡ xs
        append_nil [] = refl
        append_nil (x ∷ xs) = ap (λ ys. x ∷ ys) (append_nil xs)

    module _ (sealed : Bool) where
      behind : drop (block_bytes g) (image g sealed rows) ≡ blocks
      behind = drop_at (header g sealed) blocks (block_bytes g) (length-header g sealed)

      long : length (image g sealed rows) ≡ image_bytes g
      long =
          let sum = length-append (header g sealed) blocks in
          let more = suc-mul g.rows (block_bytes g) in
          omega (arith, sum, length-header g sealed, length-blocks, more)

      pub image-rows : rows_in g (image g sealed rows) ≡ rows
      image-rows =
          ap (λ bs. record { width = g.width; words = g.words; rows = map (words_in g) (first_chunks (block_bytes g) g.rows bs) }) behind
          ∙ ap (λ cs. record { width = g.width; words = g.words; rows = map (words_in g) cs }) cut
          ∙ ap (λ rs. record { width = g.width; words = g.words; rows = rs }) (words-blocks rows.rows are.each)
          ∙ ap (λ w. record { width = w; words = g.words; rows = rows.rows }) (sym are.width)
          ∙ ap (λ m. record { width = rows.width; words = m; rows = rows.rows }) (sym are.words)

      pub image-blocks : AreBlocks g (image g sealed rows)
      image-blocks =
          let same : chunks (image g sealed rows) ≡ map (row_block g) rows.rows = ap (first_chunks (block_bytes g) g.rows) behind ∙ cut in
          let each : All (IsRowBlock g) (map (row_block g) rows.rows) =
          All-map (IsRowBlock g) (row_block g) rows.rows (λ k d h. (_, are.each k d h, refl)) in
          record { limits = are.limits; whole = long; rows = chunks-held (image g sealed rows) long (subst (All (IsRowBlock g)) (sym same) each) }

  module _ (bytes : List ℕ) (are : AreBlocks g bytes) where
    -- the blocks after the first are those of the rows
    pub blocks-rows : drop (block_bytes g) bytes ≡ flat_map (row_block g) (rows_in g bytes).rows
    blocks-rows =
        let rows = rows_in g bytes in
        let held = rows-are are.limits bytes in
        same_from_chunks (block_bytes g) g.rows (drop (block_bytes g) bytes) (blocks rows held) (length-rest (block_bytes g) g.rows bytes are.whole)
        (length-blocks rows held) (sym (cut rows held ∙ blocks-words bytes (held-chunks bytes are.whole are.rows)))

    pub blocks-image : (sealed : Bool) → take (block_bytes g) bytes ≡ header g sealed → bytes ≡ image g sealed (rows_in g bytes)
    blocks-image sealed first =
        sym (take-append-drop (block_bytes g) bytes) ∙ ap (λ front. front ++ drop (block_bytes g) bytes) first
        ∙ ap (λ rest. header g sealed ++ rest) blocks-rows

    module _ (block : List ℕ) (is : length block ≡ block_bytes g) where
      pub header-blocks : AreBlocks g (with_block (block_bytes g) 0 block bytes) × (rows_in g (with_block (block_bytes g) 0 block bytes) ≡ rows_in g bytes)
      header-blocks =
          let same = rest-header (block_bytes g) g.rows bytes are.whole block is in
          let whole = length-written (block_bytes g) g.rows bytes are.whole block is 0 (omega arith) ∙ are.whole in
          let cuts : chunks bytes ≡ chunks (with_block (block_bytes g) 0 block bytes) = ap (first_chunks (block_bytes g) g.rows) (sym same) in (
            record {
              limits = are.limits;
              whole = whole;
              rows = chunks-held (with_block (block_bytes g) 0 block bytes) whole (subst (All (IsRowBlock g)) cuts (held-chunks bytes are.whole are.rows));
            },
            ap (λ cs. record { width = g.width; words = g.words; rows = map (words_in g) cs }) (sym cuts),
          )

  -- a block that is written after the first is held at its place
  pub rows-written : (bytes : List ℕ) → length bytes ≡ image_bytes g → (at : ℕ) (block : List ℕ) → length block ≡ block_bytes g → at < g.rows →
      rows_in g (with_block (block_bytes g) (at + 1) block bytes) ≡ table_write (rows_in g bytes) at (record { width = g.width; words = words_in g block })
  rows-written bytes long at block is h =
      ap (λ cs. record { width = g.width; words = g.words; rows = map (words_in g) cs }) (chunks-written (block_bytes g) g.rows bytes long block is at h)
      ∙ ap (λ rs. record { width = g.width; words = g.words; rows = rs }) (map-set (words_in g) (chunks bytes) at block)

  pub row-written : (bytes : List ℕ) → AreBlocks g bytes → (at : ℕ) (words : List ℕ) → at < g.rows → AreWords g words →
      AreBlocks g (with_block (block_bytes g) (at + 1) (row_block g words) bytes)
      × (rows_in g (with_block (block_bytes g) (at + 1) (row_block g words) bytes) ≡ table_write (rows_in g bytes) at
      (record { width = g.width; words = words }))
  row-written bytes are at words h fit =
      let block = row_block g words in
      let is = length-row_block g words fit.many in
      let now = with_block (block_bytes g) (at + 1) block bytes in
      let whole : length now ≡ image_bytes g = length-written (block_bytes g) g.rows bytes are.whole block is (at + 1) (omega (arith, h)) ∙ are.whole in
      let cuts : chunks now ≡ set (chunks bytes) at block = chunks-written (block_bytes g) g.rows bytes are.whole block is at h in
      let before = held-chunks bytes are.whole are.rows in
      let each : All (IsRowBlock g) (set (chunks bytes) at block) = set_keeps (chunks bytes) at block before (words, fit, refl) in (
        record { limits = are.limits; whole = whole; rows = chunks-held now whole (subst (All (IsRowBlock g)) (sym cuts) each) },
        rows-written bytes are.whole at block is h
            ∙ ap (λ ws. table_write (rows_in g bytes) at (record { width = g.width; words = ws })) (words-row_block g words fit),
      )
    where
      set_keeps : (cs : List (List ℕ)) (i : ℕ) (c : List ℕ) → All (IsRowBlock g) cs → IsRowBlock g c → All (IsRowBlock g) (set cs i c)
      set_keeps [] i c h new k d lt = absurd (omega arith)
      set_keeps (b ∷ bs) zero c h new zero d lt = new
      set_keeps (b ∷ bs) zero c h new (suc k) d lt = h (suc k) d (omega arith)
      set_keeps (b ∷ bs) (suc i) c h new zero d lt = h 0 d (omega arith)
      set_keeps (b ∷ bs) (suc i) c h new (suc k) d lt = set_keeps bs i c (λ j e less. h (suc j) e (omega arith)) new k d (omega arith)

  -- zeros alone
  pub zeros-held : IsShape (table_shape g) → AreBlocks g (replicate (image_bytes g) 0) × (rows_in g (replicate (image_bytes g) 0) ≡ zeros_of g)
  zeros-held limits =
      let size = block_bytes g in
      let bytes = replicate (image_bytes g) 0 in
      let whole : length bytes ≡ image_bytes g = length-replicate {A = ℕ} (image_bytes g) 0 in
      let many : image_bytes g - size ≡ g.rows * size = let more = suc-mul g.rows size in omega (arith, more) in
      let cuts : chunks bytes ≡ replicate g.rows (replicate size 0) =
      ap (first_chunks size g.rows) (drop-replicate size (image_bytes g) 0 ∙ ap (λ n. replicate n 0) many) ∙ first_chunks-replicate size g.rows 0 in
      let block : IsRowBlock g (replicate size 0) = (replicate g.words 0, zeros-are g, sym (zeros-block g)) in
      let words : words_in g (replicate size 0) ≡ replicate g.words 0 = ap (words_in g) (sym (zeros-block g))
      ∙ words-row_block g (replicate g.words 0) (zeros-are g) in (
        record {
          limits = limits;
          whole = whole;
          rows = chunks-held bytes whole (subst (All (IsRowBlock g)) (sym cuts) (All-replicate (IsRowBlock g) g.rows (replicate size 0) block));
        },
        ap (λ cs. record { width = g.width; words = g.words; rows = map (words_in g) cs }) cuts
            ∙ ap (λ rs. record { width = g.width; words = g.words; rows = rs }) (same g.rows (replicate size 0) ∙ ap (replicate g.rows) words),
      )
    where
      same : (n : ℕ) (c : List ℕ) → map (words_in g) (replicate n c) ≡ replicate n (words_in g c)
      same zero c = refl
      same (suc n) c = ap (λ cs. words_in g c ∷ cs) (same n c)

pub images_hold_their_rows : ImagesHoldTheirRows
images_hold_their_rows g sealed rows are = image-rows g rows are sealed

pub images_are_blocks : ImagesAreBlocks
images_are_blocks g sealed rows are = image-blocks g rows are sealed

pub blocks_are_images : BlocksAreImages
blocks_are_images g sealed bytes are first = (rows-are g are.limits bytes, blocks-image g bytes are sealed first)

pub headers_hold_no_rows : HeadersHoldNoRows
headers_hold_no_rows g block bytes are is = header-blocks g bytes are block is

pub written_rows_are_held : WrittenRowsAreHeld
written_rows_are_held g at words bytes are h fit = row-written g bytes are at words h fit

pub zeros_hold_zeros : ZerosHoldZeros
zeros_hold_zeros g limits = zeros-held g limits
