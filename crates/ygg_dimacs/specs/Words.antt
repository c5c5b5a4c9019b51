-- The words of a line.
use Rattle.std.specs.Prelude.{ℕ, ◌+◌, List, [], ◌∷◌, ◌++◌, length, if◌then◌else◌}
use Rattle.std.specs.List.{slice_split, flat_map}
use Rattle.ygg_base.specs.Lexing.{is_blank, is_empty}
use Rattle.ygg_dimacs.specs.Places.{Line, TextWord, word_at}

-- the pieces between blanks
abbrev pub pieces_of : List ℕ → List (List ℕ)
pieces_of bytes = slice_split is_blank bytes

-- the word that a piece is: an empty one is none
abbrev pub word_of : ℕ → ℕ → List ℕ → List TextWord
word_of line column piece = if is_empty piece then [] else word_at line column piece ∷ []

-- the words among pieces of a line, the first of which stands in this column; one blank stands after each but the last
abbrev pub words_among : ℕ → ℕ → List (List ℕ) → List TextWord
words_among line column [] = []
words_among line column (piece ∷ pieces) = word_of line column piece ++ words_among line (column + length piece + 1) pieces

-- the words of bytes that begin in this column of a line
abbrev pub words_from : ℕ → ℕ → List ℕ → List TextWord
words_from line column bytes = words_among line column (pieces_of bytes)

-- the words of a line
abbrev pub words_of : Line → List TextWord
words_of l = words_from l.number 1 l.bytes

-- the words of lines
abbrev pub words_of_all : List Line → List TextWord
words_of_all ls = flat_map words_of ls
