-- Lines one after another.
use Rattle.std.proofs.Common.{◌≡◌, ℕ, suc, ◌+◌, ◌<◌, Bool, true, false, not, cond, List, [], ◌∷◌, ◌++◌, length, Option, Some, refl, ap, ◌∙◌, arith}
use Rattle.std.specs.Prelude.{◌==◌, if◌then◌else◌, filter, take_while}
use denote.Ref.{Bor}
use Rattle.ygg_dimacs.specs.declared.places.Line as code_line
use Rattle.ygg_dimacs.specs.declared.places.TextRest.{TextRest}
use Rattle.ygg_dimacs.specs.Left.{lines_in, line_of, left_lines, left_content, left_end, IsNextLine, IsNextContent}
use Rattle.std.specs.List.{prefix_len}
use Rattle.std.proofs.lemmas.List.Splits.{length-slice_split}
use Rattle.ygg_dimacs.specs.Places.{TextPlace, Line, place}
use Rattle.ygg_dimacs.specs.Lines.{numbered, pieces_of, is_last, is_passed_over, content_of, end_from}
use Rattle.ygg_dimacs.specs.Words.{word_of, words_among, words_from}
use Rattle.ygg_dimacs.specs.Words as words

-- a line
abbrev pub line : ℕ → List ℕ → Line
line number bytes = record { number = number; bytes = bytes }

-- where lines are left, what stood before them doesn't matter
end_same : (p q : TextPlace) (n : ℕ) (parts : List (List ℕ)) → 0 < length parts → end_from p (numbered n parts) ≡ end_from q (numbered n parts)
end_same p q n [] some = absurd (omega arith)
end_same p q n (x ∷ xs) some = refl

some_pieces : (bytes : List ℕ) → 0 < length (pieces_of bytes)
some_pieces bytes = omega (arith, length-slice_split (λ b. b == 10) bytes)

-- the end, where others follow
pub end_more : (p : TextPlace) (n : ℕ) (bytes first others : List ℕ) → pieces_of bytes ≡ first ∷ pieces_of others →
    end_from p (numbered n (pieces_of bytes))
    ≡ (if is_last (line n first) then place n 1 else end_from (place (n + 1) 1) (numbered (n + 1) (pieces_of others)))
end_more p n bytes first others is =
    ap (λ (x : List (List ℕ)). end_from p (numbered n x)) is
    ∙ ap (λ (x : TextPlace). if is_last (line n first) then place n 1 else x)
    (end_same (place n (length first + 1)) (place (n + 1) 1) (n + 1) (pieces_of others) (some_pieces others))

-- the end, where none follows
pub end_only : (p : TextPlace) (n : ℕ) (bytes first : List ℕ) → pieces_of bytes ≡ first ∷ [] →
    end_from p (numbered n (pieces_of bytes)) ≡ (if is_last (line n first) then place n 1 else place n (length first + 1))
end_only p n bytes first is = ap (λ (x : List (List ℕ)). end_from p (numbered n x)) is

-- a line that isn't read
pub content_last : (l : Line) (ls : List Line) → is_last l ≡ true → content_of (l ∷ ls) ≡ []
content_last l ls is = rw is refl

-- lines that are read
read_on : (l : Line) (ls : List Line) → is_last l ≡ false → take_while (λ x. not (is_last x)) (l ∷ ls) ≡ l ∷ take_while (λ x. not (is_last x)) ls
read_on l ls is =
    let one : 1 + prefix_len (λ x. not (is_last x)) ls ≡ suc (prefix_len (λ x. not (is_last x)) ls) = omega arith in
    rw (is, one) refl

-- a line that is passed over
pub content_over : (l : Line) (ls : List Line) → is_last l ≡ false → is_passed_over l.bytes ≡ true → content_of (l ∷ ls) ≡ content_of ls
content_over l ls is over =
    let rest : List Line = take_while (λ x. not (is_last x)) ls in
    ap (filter (λ x. not (is_passed_over x.bytes))) (read_on l ls is)
    ∙ ap (λ (b : Bool). cond (not b) (l ∷ filter (λ x. not (is_passed_over x.bytes)) rest) (filter (λ x. not (is_passed_over x.bytes)) rest)) over

-- a line that counts
pub content_kept : (l : Line) (ls : List Line) → is_last l ≡ false → is_passed_over l.bytes ≡ false → content_of (l ∷ ls) ≡ l ∷ content_of ls
content_kept l ls is over =
    let rest : List Line = take_while (λ x. not (is_last x)) ls in
    ap (filter (λ x. not (is_passed_over x.bytes))) (read_on l ls is)
    ∙ ap (λ (b : Bool). cond (not b) (l ∷ filter (λ x. not (is_passed_over x.bytes)) rest) (filter (λ x. not (is_passed_over x.bytes)) rest)) over

-- the first line that is left, and those after it
pub next_more : (n : ℕ) (p : TextPlace) (left : Option (Bor (List ℕ))) (bytes : Bor (List ℕ)) (first others : List ℕ) → left ≡ Some bytes →
    pieces_of bytes.now ≡ first ∷ pieces_of others →
    (lines_in n left ≡ line n first ∷ numbered (n + 1) (pieces_of others))
    × (end_from p (lines_in n left) ≡ (if is_last (line n first) then place n 1 else end_from (place (n + 1) 1) (numbered (n + 1) (pieces_of others))))
next_more n p left bytes first others some is = (
  ap (lines_in n) some ∙ ap (numbered n) is,
  ap (λ (b : Option (Bor (List ℕ))). end_from p (lines_in n b)) some ∙ end_more p n bytes.now first others is,
)

-- a piece of a line, and those after it
pub words_more : (n column : ℕ) (bytes first others : List ℕ) → words.pieces_of bytes ≡ first ∷ words.pieces_of others →
    words_from n column bytes ≡ word_of n column first ++ words_from n (column + length first + 1) others
words_more n column bytes first others is = ap (words_among n column) is

-- the last piece of a line
pub words_only : (n column : ℕ) (bytes first : List ℕ) → words.pieces_of bytes ≡ first ∷ [] →
    words_from n column bytes ≡ word_of n column first ++ words_from n column []
words_only n column bytes first is = ap (words_among n column) is

-- a line that counts, after lines that don't
pub counted : (first before : TextRest) (l : code_line.Line) (after : TextRest) → left_content first ≡ left_content before → left_end first ≡ left_end before →
    IsNextLine before l after → is_last (line_of l) ≡ false → is_passed_over l.bytes.now ≡ false → IsNextContent first l after
counted first before l after lines ends n last over = record {
  lines = lines ∙ ap content_of n.lines ∙ content_kept (line_of l) (left_lines after) last over;
  ends = ends ∙ n.ends ∙ ap (λ (b : Bool). if b then place l.number 1 else left_end after) last;
}

-- one more that doesn't
pub passed : (first before : TextRest) (l : code_line.Line) (after : TextRest) → left_content first ≡ left_content before → left_end first ≡ left_end before →
    IsNextLine before l after → is_last (line_of l) ≡ false → is_passed_over l.bytes.now ≡ true →
    (left_content first ≡ left_content after) × (left_end first ≡ left_end after)
passed first before l after lines ends n last over = (
  lines ∙ ap content_of n.lines ∙ content_over (line_of l) (left_lines after) last over,
  ends ∙ n.ends ∙ ap (λ (b : Bool). if b then place l.number 1 else left_end after) last,
)
