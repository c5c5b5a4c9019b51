-- Rows and their blocks.
use Rattle.std.proofs.Common.{◌≡◌, ℕ, zero, suc, ◌+◌, ◌-◌, ◌*◌, ◌%◌, ◌^◌, ◌<◌, ◌≤◌, List, [], ◌∷◌}
use Rattle.std.proofs.Common.{◌++◌, length, take, drop, get_or, replicate, map, All, inl, inr, refl, sym, ap, ◌∙◌, arith}
use Rattle.std.proofs.Math.Nat.{le-max_right, mod-lt, zero-mul, suc-mul}
use Rattle.std.proofs.lemmas.Bool.{cases_lt}
use Rattle.std.proofs.lemmas.Grind.{flat_map-append, take_at_read}
use Rattle.std.proofs.lemmas.List.{
  append-nil,
  drop-drop,
  drop-replicate,
  drop_at,
  ext_get_or,
  get_or-map,
  length-append,
  length-map,
  length-replicate,
  length-take-le,
  replicate-append-replicate,
  take_all,
  take_at,
}
use Rattle.std.proofs.lemmas.List.Elements.{All-map, All-replicate}
use Rattle.std.proofs.lemmas.Nat.{pow_pos}
use Rattle.std.specs.Int.{bytes_high_first}
use Rattle.std.specs.List.{flat_map}
use Rattle.std.specs.Simd.{first_chunks}
use Rattle.ygg_base.specs.declared.geometry.Geometry.{Geometry}
use Rattle.ygg_value.proofs.Rows.{length-first_chunks, get_or-first_chunks}
use Rattle.ygg_run_image.specs.Image.{word_bytes, block_bytes, row_block, number_in, words_in}
use Rattle.ygg_run_image.specs.Judged.{AreWords, IsRowBlock}
use Rattle.ygg_run_image.proofs.Numbers.{length-bytes, word-bytes, zero-bytes}
use Rattle.ygg_run_image.proofs.Pieces.{length-pieces, chunks-pieces}

module _ (g : Geometry) where
  -- the bytes of a word
  abbrev pub word_block : ℕ → List ℕ
  word_block = bytes_high_first (word_bytes g)

  -- the word that bytes are
  abbrev pub word_of : List ℕ → ℕ
  word_of bytes = number_in bytes % 2 ^ g.width

  even : (words : List ℕ) → All (λ n. length (word_block n) ≡ word_bytes g) words
  even words k d h = length-bytes (word_bytes g) _

  -- the words of a row fill this part of its block
  pub length-words : (words : List ℕ) → length (flat_map (bytes_high_first (word_bytes g)) words) ≡ length words * word_bytes g
  length-words words = length-pieces word_block (word_bytes g) words (even words)

  -- the block of a row is as long as each
  pub length-row_block : (words : List ℕ) → length words ≡ g.words → length (row_block g words) ≡ block_bytes g
  length-row_block words many =
      let row = flat_map word_block words in
      let sum = length-append row (replicate (block_bytes g - length row) 0) in
      let zeros = length-replicate {A = ℕ} (block_bytes g - length row) 0 in
      let own : length row ≡ g.words * word_bytes g = length-words words ∙ ap (λ n. n * word_bytes g) many in
      let fits : g.words * word_bytes g ≤ block_bytes g = le-max_right 16 (g.words * word_bytes g) in
      omega (arith, sum, zeros, own, fits)

  -- words read back from their bytes
  words_back : (words : List ℕ) → All (λ n. n < 2 ^ g.width) words → map word_of (map word_block words) ≡ words
  words_back [] fits = refl
  words_back (n ∷ ns) fits =
      let first : word_of (word_block n) ≡ n = word-bytes g.width n (fits 0 n (omega arith)) in
      ap (λ m. m ∷ map word_of (map word_block ns)) first ∙ ap (λ ms. n ∷ ms) (words_back ns (λ k d h. fits (suc k) d (omega arith)))

  -- a row reads back from its block
  pub words-row_block : (words : List ℕ) → AreWords g words → words_in g (row_block g words) ≡ words
  words-row_block words are =
      let behind = replicate (block_bytes g - length (flat_map word_block words)) 0 in
      let cut : first_chunks (word_bytes g) g.words (row_block g words) ≡ map word_block words =
      ap (λ n. first_chunks (word_bytes g) n (row_block g words)) (sym are.many) ∙ chunks-pieces word_block (word_bytes g) words behind (even words) in
      ap (map word_of) cut ∙ words_back words are.fits

  -- the block of a row is the block of what it holds
  pub row_block-words : (block : List ℕ) → IsRowBlock g block → row_block g (words_in g block) ≡ block
  row_block-words block (words, are, is) = ap (λ b. row_block g (words_in g b)) is ∙ ap (row_block g) (words-row_block words are) ∙ sym is

  -- whatever a block holds are words of a row
  pub words-are : (block : List ℕ) → AreWords g (words_in g block)
  words-are block = record {
    many = length-map (first_chunks (word_bytes g) g.words block) word_of ∙ length-first_chunks (word_bytes g) g.words block;
    fits = All-map (λ n. n < 2 ^ g.width) word_of (first_chunks (word_bytes g) g.words block) (λ k d h. mod-lt _ (pow_pos g.width));
  }

  -- a block that is that of what it holds is that of a row
  pub row_block-is : (block : List ℕ) → row_block g (words_in g block) ≡ block → IsRowBlock g block
  row_block-is block same = (words_in g block, words-are block, sym same)

  zero_words : (m : ℕ) → flat_map word_block (replicate m 0) ≡ replicate (m * word_bytes g) 0
  zero_words zero = ap (λ n. replicate n 0) (sym (zero-mul (word_bytes g)))
  zero_words (suc m) =
      ap (λ bs. bs ++ flat_map word_block (replicate m 0)) (zero-bytes (word_bytes g))
      ∙ ap (λ bs. replicate (word_bytes g) 0 ++ bs) (zero_words m)
      ∙ replicate-append-replicate (word_bytes g) (m * word_bytes g) 0
      ∙ ap (λ n. replicate n 0) (let more = suc-mul m (word_bytes g) in omega (arith, more))

  -- zeros are words of a row
  pub zeros-are : AreWords g (replicate g.words 0)
  zeros-are = record {
    many = length-replicate {A = ℕ} g.words 0;
    fits = All-replicate (λ n. n < 2 ^ g.width) g.words 0 (pow_pos g.width);
  }

  -- their block is zeros
  pub zeros-block : row_block g (replicate g.words 0) ≡ replicate (block_bytes g) 0
  zeros-block =
      let fits : g.words * word_bytes g ≤ block_bytes g = le-max_right 16 (g.words * word_bytes g) in
      let row = zero_words g.words in
      let long : length (flat_map word_block (replicate g.words 0)) ≡ g.words * word_bytes g = ap length row
      ∙ length-replicate {A = ℕ} (g.words * word_bytes g) 0 in
      ap (λ bs. bs ++ replicate (block_bytes g - length (flat_map word_block (replicate g.words 0))) 0) row
      ∙ ap (λ n. replicate (g.words * word_bytes g) 0 ++ replicate (block_bytes g - n) 0) long
      ∙ replicate-append-replicate (g.words * word_bytes g) (block_bytes g - g.words * word_bytes g) 0
      ∙ ap (λ n. replicate n 0) (omega (arith, fits))

module _ (g : Geometry) (words : List ℕ) where
  -- a block in which so many words of a row stand
  abbrev pub begun : ℕ → List ℕ
  begun count = flat_map (bytes_high_first (word_bytes g)) (take count words) ++ replicate (block_bytes g - count * word_bytes g) 0

  length-begun : (count : ℕ) → count ≤ length words → length (flat_map (bytes_high_first (word_bytes g)) (take count words)) ≡ count * word_bytes g
  length-begun count h = length-words g (take count words) ∙ ap (λ n. n * word_bytes g) (length-take-le count words h)

  -- one more
  pub begun-next : (count : ℕ) → count < length words →
      take (count * word_bytes g) (begun count) ++ bytes_high_first (word_bytes g) (get_or words count 0) ++ drop
      (count * word_bytes g + word_bytes g) (begun count)
      ≡ begun (count + 1)
  begun-next count h =
      let size = word_bytes g in
      let front = flat_map (bytes_high_first size) (take count words) in
      let zeros = replicate (block_bytes g - count * size) 0 in
      let new = bytes_high_first size (get_or words count 0) in
      let long : length front ≡ count * size = length-begun count (omega (arith, h)) in
      let more : (count + 1) * size ≡ count * size + size = let after = suc-mul count size in omega (arith, after) in
      let left : block_bytes g - count * size - size ≡ block_bytes g - (count + 1) * size = omega (arith, more) in
      let behind : drop (count * size + size) (front ++ zeros) ≡ replicate (block_bytes g - (count + 1) * size) 0 =
      sym (drop-drop size (count * size) (front ++ zeros))
      ∙ ap (drop size) (drop_at front zeros (count * size) long)
      ∙ drop-replicate size (block_bytes g - count * size) 0
      ∙ ap (λ n. replicate n 0) left in
      let one : flat_map (bytes_high_first size) (take (count + 1) words) ≡ front ++ new =
      ap (flat_map (bytes_high_first size)) (take_at_read words count 0 h).1
      ∙ flat_map-append (bytes_high_first size) (take count words) (get_or words count 0 ∷ [])
      ∙ ap (λ bs. front ++ bs) (append-nil new) in
      ap (λ f. f ++ new ++ drop (count * size + size) (front ++ zeros)) (take_at front zeros (count * size) long)
      ∙ ap (λ b. front ++ new ++ b) behind
      ∙ ap (λ f. f ++ replicate (block_bytes g - (count + 1) * size) 0) (sym one)

  -- the same by numbers that are equal
  pub begun-step : (count size word : ℕ) (block : List ℕ) → size ≡ word_bytes g → word ≡ get_or words count 0 → block ≡ begun count → count < length words →
      take (count * size) block ++ bytes_high_first size word ++ drop (count * size + size) block ≡ begun (count + 1)
  begun-step count size word block s w b h = rw (s, w, b) (begun-next count h)

  -- with all words it is the row's block
  pub begun-all : begun (length words) ≡ row_block g words
  begun-all =
      let all : take (length words) words ≡ words = take_all (length words) words (omega arith) in
      ap (λ ws. flat_map (bytes_high_first (word_bytes g)) ws ++ replicate (block_bytes g - length words * word_bytes g) 0) all
      ∙ ap (λ n. flat_map (bytes_high_first (word_bytes g)) words ++ replicate (block_bytes g - n) 0) (sym (length-words g words))

-- words that are those of a block, one by one, are those that it holds
pub read-all : (g : Geometry) (block words : List ℕ) → length words ≡ g.words →
    ((place : ℕ) → place < g.words → get_or words place 0 ≡ number_in (take (word_bytes g) (drop (place * word_bytes g) block)) % 2 ^ g.width) →
    words ≡ words_in g block
read-all g block words many each =
    let cut = first_chunks (word_bytes g) g.words block in
    let long : length cut ≡ g.words = length-first_chunks (word_bytes g) g.words block in
    ext_get_or 0 words (words_in g block) (many ∙ sym (length-map cut (word_of g) ∙ long))
    (λ place h. each place (omega (arith, h, many))
    ∙ sym (get_or-map (word_of g) cut place [] 0 (omega (arith, h, many, long))
    ∙ ap (word_of g) (get_or-first_chunks (word_bytes g) g.words block place [] (omega (arith, h, many)))))

-- what holds of so many words and of the next one holds of one more
pub fits-next : (words : List ℕ) (count limit : ℕ) → ((i : ℕ) → i < count → get_or words i 0 < limit) → get_or words count 0 < limit →
    (i : ℕ) → i < count + 1 → get_or words i 0 < limit
fits-next words count limit before next i h = elim (cases_lt i count) [
  | inl less ↦ before i less
  | inr other ↦ let same : i ≡ count = omega (arith, h, other) in rw same next
]
