-- The lines of a text that count, and where it ends.
use Rattle.std.specs.Prelude.{ℕ, ◌+◌, Bool, false, not, ◌==◌, ◌||◌, if◌then◌else◌, List, [], ◌∷◌, filter, take_while, length}
use Rattle.std.specs.List.{list_all, slice_split}
use Rattle.ygg_base.specs.Lexing.{is_blank}
use Rattle.ygg_dimacs.specs.Places.{TextPlace, Line, place}

-- whether bytes begin with this one
abbrev pub begins : ℕ → List ℕ → Bool
begins mark [] = false
begins mark (b ∷ bs) = b == mark

-- lines, of which the first has this number
abbrev pub numbered : ℕ → List (List ℕ) → List Line
numbered number [] = []
numbered number (bytes ∷ others) = record { number = number; bytes = bytes } ∷ numbered (number + 1) others

-- the pieces of a text between line feeds
abbrev pub pieces_of : List ℕ → List (List ℕ)
pieces_of bytes = slice_split (λ b. b == 10) bytes

-- whether it begins with `%`: it isn't read, and neither is all that follows
abbrev pub is_last : Line → Bool
is_last l = begins 37 l.bytes

-- whether it is passed over: it has blanks alone, or begins with `c`
abbrev pub is_passed_over : List ℕ → Bool
is_passed_over bytes = begins 99 bytes || list_all is_blank bytes

-- the lines that are read and not passed over
abbrev pub content_of : List Line → List Line
content_of ls = filter (λ l. not (is_passed_over l.bytes)) (take_while (λ l. not (is_last l)) ls)

-- The end of what is read, where what stands before these lines ended at a place: the beginning of the first line that isn't read, or else the place after
-- the last line.
abbrev pub end_from : TextPlace → List Line → TextPlace
end_from end [] = end
end_from end (l ∷ ls) = if is_last l then place l.number 1 else end_from (place l.number (length l.bytes + 1)) ls
