-- What one byte and the end of a token do.
use Rattle.std.proofs.Common.{
  ◌≡◌,
  ◌≢◌,
  ℕ,
  ◌+◌,
  ◌-◌,
  ◌<◌,
  ◌≤◌,
  Bool,
  true,
  false,
  List,
  [],
  ◌∷◌,
  ◌++◌,
  length,
  get_or,
  drop,
  slice_range,
  if◌then◌else◌,
  Some,
  Ok,
  Err,
  refl,
  ap,
  sym,
  ◌∙◌,
  append_assoc,
  arith,
}
use Rattle.std.proofs.lemmas.Bool.Decides.{nat_tests}
use Rattle.std.proofs.lemmas.List.{drop_more}
use Rattle.std.proofs.lemmas.List.Edits.{between_more}
use Rattle.ygg_base.specs.declared.token.Token.{Token}
use Rattle.ygg_base.specs.declared.token.Mark.{Mark}
use Rattle.ygg_base.specs.Lexing.{Lexed, after_these, token_before, closed, recognized, is_past_ascii, is_blank, extends, begin, line_after, column_after, lex}

pub after_both : (these those : List Token) (others : Lexed) → after_these these (after_these those others) ≡ after_these (these ++ those) others
after_both these those (Ok others) = ap (λ (items : List Token). Ok (record others { items = items })) (sym (append_assoc these those others.items))
after_both these those (Err refusal) = refl

-- bytes that are a token give it
pub closed_token : (items : List Token) (part : List ℕ) (line column : ℕ) (mark : Mark) (others : Lexed) → 0 < length part → get_or part 0 0 ≢ 35 →
    recognized part ≡ Some mark
    → after_these items (closed part line column others) ≡ after_these (items ++ record { mark = mark; line = line; column = column } ∷ []) others
closed_token items [] line column mark others some sign is = absurd (omega arith)
closed_token items (a ∷ more) line column mark others some sign is =
    let token : closed (a ∷ more) line column others ≡ token_before (Some mark) line column others = grind (arith, nat_tests, is) in
    ap (after_these items) token ∙ after_both items (record { mark = mark; line = line; column = column } ∷ []) others

-- what is left of a text from a byte on
read_at : (text : List ℕ) (place begun line column : ℕ) (part : List ℕ) → place < length text
    → lex part begun line column (drop place text) ≡ lex part begun line column (get_or text place 0 ∷ drop (place + 1) text)
read_at text place begun line column part here = ap (lex part begun line column) (drop_more text place 0 here)

-- no bytes up to their own start
nothing : (text : List ℕ) (place : ℕ) → slice_range text place place ≡ []
nothing text place = let none : place - place ≡ 0 = omega arith in rw none refl

-- a byte that makes the token or comment longer
pub longer : (text : List ℕ) (start place begun line column : ℕ) → start ≤ place → place < length text → is_past_ascii (get_or text place 0) ≡ false
    → extends (slice_range text start place) (get_or text place 0) ≡ true
    → lex (slice_range text start place) begun line column (drop place text) ≡ lex (slice_range text start (place + 1)) begun line (column + 1)
    (drop (place + 1) text)
longer text start place begun line column before here ascii more =
    read_at text place begun line column (slice_range text start place) here ∙ rw (ascii, more, between_more text start place 0 before here) refl

begins_by : (text : List ℕ) (place : ℕ) (blank : Bool) → place < length text
    → slice_range text (if blank then place + 1 else place) (place + 1) ≡ (if blank then [] else get_or text place 0 ∷ [])
begins_by text place true here = nothing text (place + 1)
begins_by text place false here = between_more text place place 0 (omega arith) here
    ∙ ap (λ (part : List ℕ). part ++ get_or text place 0 ∷ []) (nothing text place)

-- where the part that a byte begins starts
pub begins : (text : List ℕ) (place : ℕ) → place < length text
    → slice_range text (if is_blank (get_or text place 0) then place + 1 else place) (place + 1) ≡ begin (get_or text place 0)
begins text place here = begins_by text place (is_blank (get_or text place 0)) here

-- a byte that ends the token or comment
pub ends : (text : List ℕ) (start place begun line column : ℕ) → place < length text → is_past_ascii (get_or text place 0) ≡ false
    → extends (slice_range text start place) (get_or text place 0) ≡ false
    → lex (slice_range text start place) begun line column (drop place text)
    ≡ closed (slice_range text start place) line begun
    (lex (slice_range text (if is_blank (get_or text place 0) then place + 1 else place) (place + 1)) column
    (line_after (get_or text place 0) line) (column_after (get_or text place 0) column) (drop (place + 1) text))
ends text start place begun line column here ascii more =
    read_at text place begun line column (slice_range text start place) here ∙ rw (ascii, more, begins text place here) refl
