-- Bytes cut into pieces, and the words of a line.
use Rattle.std.specs.Prelude.{ℕ, Bool, true, false, not, ◌==◌, ◌&&◌, if◌then◌else◌, List, [], ◌∷◌, Option, Some, None}
use Rattle.std.specs.List.{list_any, slice_split}

-- no bytes
abbrev pub is_empty : List ℕ → Bool
is_empty [] = true
is_empty (b ∷ bs) = false

-- the bytes before the first such byte and, where there is one, those after it
abbrev pub cut_at : ℕ → List ℕ → List ℕ × Option (List ℕ)
cut_at mark [] = ([], None)
cut_at mark (b ∷ bs) = if b == mark then ([], Some bs) else (b ∷ (cut_at mark bs).0, (cut_at mark bs).1)

-- the pieces between such bytes
abbrev pub parts : ℕ → List ℕ → List (List ℕ)
parts mark bytes = slice_split (λ b. b == mark) bytes

-- what follows these bytes where others begin with them
abbrev pub after_front : List ℕ → List ℕ → Option (List ℕ)
after_front [] bytes = Some bytes
after_front (f ∷ front) [] = None
after_front (f ∷ front) (b ∷ bytes) = if f == b then after_front front bytes else None

-- a word of a line: some bytes, and no space among them
abbrev pub is_word : List ℕ → Bool
is_word bytes = not (is_empty bytes) && not (list_any (λ b. b == 32) bytes)

-- the word that these bytes are
abbrev pub word_in : List ℕ → Option (List ℕ)
word_in bytes = if is_word bytes then Some bytes else None

-- two words, the second of them where there is one
abbrev pub two_words : List ℕ → Option (List ℕ) → Option (List ℕ × List ℕ)
two_words first None = None
two_words first (Some second) = if is_word first && is_word second then Some (first, second) else None

-- the two words that these bytes are, with one space between them
abbrev pub words_in : List ℕ → Option (List ℕ × List ℕ)
words_in bytes = two_words (cut_at 32 bytes).0 (cut_at 32 bytes).1
