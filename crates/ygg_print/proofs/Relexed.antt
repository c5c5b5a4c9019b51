-- The tokens of a canonical text are those that were laid out.
use Rattle.std.proofs.Common.{
  ◌≡◌,
  ℕ,
  zero,
  suc,
  ◌+◌,
  ◌*◌,
  Bool,
  true,
  false,
  ◌==◌,
  if◌then◌else◌,
  List,
  [],
  ◌∷◌,
  ◌++◌,
  length,
  replicate,
  Option,
  Some,
  None,
  Ok,
  Err,
  refl,
  ap,
  sym,
  ◌∙◌,
  subst,
  append_assoc,
}
use Rattle.std.specs.List.{All}
use Rattle.std.proofs.lemmas.List.Elements.{All-head, All-tail}
use Rattle.ygg_base.specs.declared.token.Mark.{Mark}
use Rattle.ygg_base.specs.Spelling.{mark_bytes}
use Rattle.ygg_base.specs.Lexing.{Lexed, lex, token_before, line_after, column_after, is_past_ascii, is_blank, extends}
use Rattle.ygg_lex.proofs.Lexemes.{first_of}
use Rattle.ygg_lex.proofs.Runs.{run, closes, Stops}
use Rattle.ygg_lex.proofs.Agree.{begins_part}
use Rattle.ygg_print.specs.Layout.{layout_from, depth_at, depth_after, ends_line, is_joined, gap, line_end}
use Rattle.ygg_print.specs.TreeLaws.{IsMark, HasMarks}
use Rattle.ygg_print.proofs.Readable.{Readable, readable}
use Rattle.ygg_print.proofs.Joined.{inert_ends, stay_two}

-- wherever the text stands after the end of a token, it has these marks
abbrev Always : List ℕ → List Mark → Type 0
Always text marks = (begun line column : ℕ) → HasMarks marks (lex [] begun line column text)

blank : (b : ℕ) (text : List ℕ) (marks : List Mark) → is_past_ascii b ≡ false → is_blank b ≡ true → Always text marks → Always (b ∷ text) marks
blank b text marks ascii is always = λ begun line column.
    let skipped : lex [] begun line column (b ∷ text) ≡ lex [] column (line_after b line) (column_after b column) text = rw (ascii, is) refl in
    subst (HasMarks marks) (sym skipped) (always column (line_after b line) (column_after b column))

spaces : (count : ℕ) (text : List ℕ) (marks : List Mark) → Always text marks → Always (replicate count 32 ++ text) marks
spaces zero text marks always = always
spaces (suc count) text marks always = blank 32 (replicate count 32 ++ text) marks refl refl (spaces count text marks always)

one_more : (this : Mark) (line column : ℕ) (marks : List Mark) (others : Lexed) → HasMarks marks others →
    HasMarks (this ∷ marks) (token_before (Some this) line column others)
one_more this line column marks (Ok found) has = ap (λ (later : List Mark). this ∷ later) has
one_more this line column marks (Err refusal) has = absurd has

-- a mark's bytes, and then others that begin with none that belongs to it
token : (this : Mark) (r : Readable this) (text : List ℕ) (marks : List Mark) → Stops (r.first ∷ r.others) text → Always text marks →
    Always (mark_bytes this ++ text) (this ∷ marks)
token this r text marks stops always = λ begun line column.
    let is = first_of r.first r.others r.lexeme in
    let after : ℕ = column + 1 + length r.others in
    let read : lex [] begun line column ((r.first ∷ r.others) ++ text) ≡ token_before (Some this) line column (lex [] column line after text) =
    begins_part r.first (r.others ++ text) begun line column is.ascii is.blank
    ∙ run r.first [] r.others text column line (column + 1) r.lexeme
    ∙ closes (r.first ∷ r.others) text column line after column stops
    ∙ rw (is.comment, r.read) refl in
    subst (λ (bytes : List ℕ). HasMarks (this ∷ marks) (lex [] begun line column (bytes ++ text))) (sym r.spelling)
    (subst (HasMarks (this ∷ marks)) (sym read) (one_more this line column marks (lex [] column line after text) (always column line after)))

stops_inert : (this : Mark) (r : Readable this) (b : ℕ) (text : List ℕ) → extends (r.first ∷ r.others) b ≡ false → Stops (r.first ∷ r.others) (b ∷ text)
stops_inert this r b text ends = λ ascii. ends

no_comment : (this : Mark) (r : Readable this) → (r.first == 35) ≡ false
no_comment this r = (first_of r.first r.others r.lexeme).comment

-- what follows a mark in its line begins with no byte that belongs to it
stops_in_line : (this : Mark) (r : Readable this) (depth : ℕ) (others : List Mark) → All IsMark others →
    Stops (r.first ∷ r.others) (layout_from depth (Some this) others)
stops_in_line this r depth [] are = tt
stops_in_line this r depth (next ∷ others) are = by_joint (is_joined this next others) refl
  where
    rn : Readable next
    rn = readable next (All-head IsMark next others are)

    by_joint : (joint : Bool) → is_joined this next others ≡ joint → Stops (r.first ∷ r.others) (layout_from depth (Some this) (next ∷ others))
    by_joint true is = rw (is, rn.spelling) (λ ascii. stay_two this next r rn others (no_comment this r) is)
    by_joint false is = rw is (λ ascii. inert_ends r.first r.others 32 (no_comment this r) refl)

-- what follows a mark, by whether its line ends
abbrev rest_of : ℕ → Mark → List Mark → Bool → List ℕ
rest_of depth this others ends = (if ends then 10 ∷ [] else []) ++ layout_from depth (if ends then None else Some this) others

laid_mark : (this : Mark) (r : Readable this) (depth : ℕ) (others : List Mark) → All IsMark others
    → ((previous : Option Mark) → Always (layout_from depth previous others) others) → (ends : Bool) →
    Always (mark_bytes this ++ rest_of depth this others ends) (this ∷ others)
laid_mark this r depth others are later true =
    token this r (10 ∷ layout_from depth None others) others (λ ascii. inert_ends r.first r.others 10 (no_comment this r) refl)
    (blank 10 (layout_from depth None others) others refl refl (later None))
laid_mark this r depth others are later false =
    token this r (layout_from depth (Some this) others) others (stops_in_line this r depth others are) (later (Some this))

after_gap : (depth : ℕ) (previous : Option Mark) (this : Mark) (others : List Mark) (text : List ℕ) (marks : List Mark) → Always text marks →
    Always (gap depth previous this others ++ text) marks
after_gap depth None this others text marks always = spaces (2 * depth_at depth this) text marks always
after_gap depth (Some previous) this others text marks always = by_joint (is_joined previous this others)
  where
    by_joint : (joint : Bool) → Always ((if joint then [] else 32 ∷ []) ++ text) marks
    by_joint true = always
    by_joint false = blank 32 text marks refl refl always

from_depth : (marks : List Mark) → All IsMark marks → (depth : ℕ) (previous : Option Mark) → Always (layout_from depth previous marks) marks
from_depth [] are depth previous = λ begun line column. refl
from_depth (this ∷ others) are depth previous =
    let later = from_depth others (All-tail IsMark this others are) (depth_after depth this) in
    let r = readable this (All-head IsMark this others are) in
    let rest : List ℕ = layout_from (depth_after depth this) (if ends_line this others then None else Some this) others in
    let laid = laid_mark this r (depth_after depth this) others (All-tail IsMark this others are) later (ends_line this others) in
    let whole : gap depth previous this others ++ (mark_bytes this ++ line_end this others) ++ rest ≡ gap depth previous this others
    ++ (mark_bytes this ++ (line_end this others ++ rest)) =
    append_assoc (gap depth previous this others) (mark_bytes this ++ line_end this others) rest
    ∙ ap (λ (text : List ℕ). gap depth previous this others ++ text) (append_assoc (mark_bytes this) (line_end this others) rest) in
    subst (λ (text : List ℕ). Always text (this ∷ others)) (sym whole)
    (after_gap depth previous this others (mark_bytes this ++ (line_end this others ++ rest)) (this ∷ others) laid)

pub relexed : (marks : List Mark) → All IsMark marks → HasMarks marks (lex [] 1 1 1 (layout_from 0 None marks))
relexed marks are = from_depth marks are 0 None 1 1 1
