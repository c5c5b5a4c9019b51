-- What the reader has left of a text, as lines and words.
use Rattle.std.specs.Prelude.{◌≡◌, ℕ, List, [], ◌∷◌, Option, Some, None, if◌then◌else◌}
use denote.Ref.{Bor}
use Rattle.ygg_dimacs.specs.declared.places.TextPlace as code_place
use Rattle.ygg_dimacs.specs.declared.places.Line as code_line
use Rattle.ygg_dimacs.specs.declared.places.TextWord as code_word
use Rattle.ygg_dimacs.specs.declared.places.TextRest.{TextRest}
use Rattle.ygg_dimacs.specs.declared.places.Onward.{Onward}
use Rattle.ygg_dimacs.specs.Places.{TextPlace, Line, TextWord, place, word_at}
use Rattle.ygg_dimacs.specs.Lines.{numbered, pieces_of, is_last, content_of, end_from}
use Rattle.ygg_dimacs.specs.Words.{words_from}

-- the place, in code
abbrev pub place_of : code_place.TextPlace → TextPlace
place_of p = place p.line p.column

-- the line, in code
abbrev pub line_of : code_line.Line → Line
line_of l = record { number = l.number; bytes = l.bytes.now }

-- the word, in code
abbrev pub word_of : code_word.TextWord → TextWord
word_of w = word_at w.line w.column w.bytes.now

-- the lines that are left, from this number on
abbrev pub lines_in : ℕ → Option (Bor (List ℕ)) → List Line
lines_in number None = []
lines_in number (Some bytes) = numbered number (pieces_of bytes.now)

-- the lines that are left
abbrev pub left_lines : TextRest → List Line
left_lines r = lines_in r.line r.bytes

-- those of them that count
abbrev pub left_content : TextRest → List Line
left_content r = content_of (left_lines r)

-- the end of what is read
abbrev pub left_end : TextRest → TextPlace
left_end r = end_from (place r.line r.column) (left_lines r)

-- the words that are left of a line
abbrev pub left_words : Onward → List TextWord
left_words o = words_from o.line o.column o.bytes.now

-- the first line that is left, and what is left after it
pub record IsNextLine (before : TextRest) (l : code_line.Line) (after : TextRest) : Type 0 where
  pub lines : left_lines before ≡ line_of l ∷ left_lines after
  pub ends : left_end before ≡ (if is_last (line_of l) then place l.number 1 else left_end after)

-- the first line that counts, and what is left after it
pub record IsNextContent (before : TextRest) (l : code_line.Line) (after : TextRest) : Type 0 where
  pub lines : left_content before ≡ line_of l ∷ left_content after
  pub ends : left_end before ≡ left_end after

-- no line that counts is left, and what is read ends there
pub record IsNoContent (before : TextRest) (p : code_place.TextPlace) : Type 0 where
  pub lines : left_content before ≡ []
  pub ends : left_end before ≡ place_of p
